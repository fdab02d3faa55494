-- A text of seats grows seat by seat.
use Rattle.std.proofs.Common.{◌≡◌, ℕ, ◌+◌, ◌++◌, ap, add-one}
use Rattle.seats.specs.Texts.{seat_mark, seats_below}

pub seats-more : (bits k : ℕ) → seats_below bits (k + 1) ≡ seats_below bits k ++ seat_mark bits k
unfolding seats_below
seats-more bits k = ap (seats_below bits) (add-one k)
