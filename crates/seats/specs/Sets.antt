-- Sets of seats as the bits of a number. All of it for any number of seats.
use Rattle.std.specs.Prelude.{ℕ, zero, suc, ◌+◌, ◌/◌, ◌%◌, ◌^◌, Bool, cond, ◌==◌}

-- whether seat k is in the set that the bits of n write
abbrev pub member : ℕ → ℕ → Bool
member n k = n / 2 ^ k % 2 == 1

-- the bits of the set of those seats below n that pass the test
unfoldable pub bits_of : ℕ → (ℕ → Bool) → ℕ
bits_of zero f = 0
bits_of (suc k) f = bits_of k f + cond (f k) (2 ^ k) 0
