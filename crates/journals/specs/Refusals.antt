-- The refusal to open a buffer: its number, and what it says.
use Rattle.std.specs.Prelude.{ℕ, ◌/◌, Bool, cond, List, ◌++◌, codes, decimal, nat_le, vec_len}
use Rattle.records.specs.Sizes.{record_length}
use Rattle.journals.specs.declared.journal.Malformed.{Malformed}

-- the number of this fault
abbrev pub malformed_number : ℕ
malformed_number = 11

-- the record does not lie whole in the buffer
abbrev pub is_outside : Malformed → Bool
is_outside m = nat_le (vec_len m.bytes / record_length) m.record

abbrev pub malformed_text : Malformed → List ℕ
malformed_text m = codes "record " ++ (decimal m.record ++ cond (is_outside m) (codes " leaves the buffer") (codes " is malformed"))
