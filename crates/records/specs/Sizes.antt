-- The sizes of the format.
use Rattle.std.specs.Prelude.{ℕ}

-- how many pairs a record has places for: half as many as there are seats
abbrev pub pair_count : ℕ
pair_count = 8

-- how many bytes a record has
abbrev pub record_length : ℕ
record_length = 22
