-- The rows that a call wrote to an outbox that was blank.
use Rattle.std.specs.Prelude.{Bool, List, length, take, unwrap_or, ◌==◌}
use Rattle.std.specs.List.{position}
use Rattle.words.specs.declared.row.Row.{Row}

-- no kind has the number 0
abbrev pub is_blank : Row → Bool
is_blank w = w.kind == 0

-- those before the first blank one
abbrev pub written : List Row → List Row
written ws = take (unwrap_or (position is_blank ws) (length ws)) ws
