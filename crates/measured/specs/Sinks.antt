-- What a sink was told, and what a buffer holds where bytes were written to its front.
use Rattle.std.specs.Prelude.{◌≡◌, ℕ, List, ◌++◌, length, take, drop}
use Rattle.measured.specs.declared.sink.Sink.{Sink}

-- the bytes that are filled
abbrev pub told : Sink → List ℕ
told s = take s.at s.out.now

-- the others, as they are
abbrev pub left : Sink → List ℕ
left s = drop s.at s.out.now

-- xs are told behind the others: what finds no place is left out, and the rest is kept
pub record Tells (s : Sink) (xs : List ℕ) (t : Sink) : Type 0 where
  pub told : told t ≡ told s ++ take (length (left s)) xs
  pub left : left t ≡ drop (length xs) (left s)
  pub same_reference : t.out.ghost_name ≡ s.out.ghost_name

-- xs stand at the front of the buffer: what finds no place is left out, and the rest is kept
abbrev pub written : List ℕ → List ℕ → List ℕ
written xs bs = take (length bs) xs ++ drop (length xs) bs
