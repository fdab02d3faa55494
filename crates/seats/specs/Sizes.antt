-- How many seats there are: another number changes this and the type of a set's bits.
use Rattle.std.specs.Prelude.{ℕ}

-- the seats are the numbers below it
abbrev pub seat_count : ℕ
seat_count = 16
