-- The size of a board.
use Rattle.std.specs.Prelude.{ℕ, ◌*◌}
use Rattle.seats.specs.Sizes.{seat_count}

-- a board has two cells for each seat
abbrev pub cell_count : ℕ
cell_count = 2 * seat_count
