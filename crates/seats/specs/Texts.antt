-- What is written of sets of seats.
use Rattle.std.specs.Prelude.{ℕ, zero, suc, cond, List, [], ◌∷◌, ◌++◌, decimal}
use Rattle.seats.specs.Sets.{member}
use Rattle.seats.specs.Sizes.{seat_count}

-- a space and the number, for a seat of the set
abbrev pub seat_mark : ℕ → ℕ → List ℕ
seat_mark bits k = cond (member bits k) (32 ∷ decimal k) []

-- the same of each seat below n
unfoldable pub seats_below : ℕ → ℕ → List ℕ
seats_below bits zero = []
seats_below bits (suc k) = seats_below bits k ++ seat_mark bits k

abbrev pub seat_text : ℕ → List ℕ
seat_text bits = seats_below bits seat_count
