-- A board's cells, and where a search for a filled one ends.
use Rattle.std.specs.Prelude.{◌≡◌, ℕ, suc, Bool, is_some, ◌+◌, ◌%◌, ◌^◌, List, [], ◌∷◌, Some, None, Option, slice_set}
use Rattle.lines.specs.Lines.{notes_in}
use Rattle.words.specs.Notes.{Note, note_in, row_of, cell_of}
use Rattle.lines.specs.Ring.{first, turned}
use Rattle.boards.specs.Sizes.{cell_count}
use Rattle.boards.specs.declared.board.Board.{Board}
use Rattle.words.specs.declared.row.Row.{Row}

-- what a post does to a board
pub record BoardStep (b : Board) (n : Note) (c : Board) : Type 0 where
  pub cells : c.cells ≡ slice_set b.cells (cell_of n) (row_of n)
  pub next : c.next ≡ b.next
  pub posted : c.posts ≡ (b.posts + 1) % 2 ^ 64

-- whether a row is a notification's
abbrev pub filled : Row → Bool
filled w = is_some (note_in w)

abbrev pub skip : Option Note → ℕ → ℕ
skip None n = suc n
skip (Some m) n = 0

-- how many rows stand before the first that is a notification's
abbrev pub leading : List Row → ℕ
leading [] = 0
leading (w ∷ ws) = skip (note_in w) (leading ws)

abbrev pub past : Option Note → ℕ → ℕ → ℕ
past None h n = h
past (Some m) h n = (h + n + 1) % cell_count

-- where the next search begins, after one that began at h and found the rows in this order: behind the first filled cell, or as before
abbrev pub moved_on : ℕ → List Row → ℕ
moved_on h ws = past (first (notes_in ws)) h (leading ws)

-- what a take gives of a board, and what it does to it: the next filled cell's notification, going round, and no cell is cleared
pub record BoardGives (b : Board) (o : Option Note) (c : Board) : Type 0 where
  pub gave : o ≡ first (notes_in (turned b.cells b.next))
  pub cells : c.cells ≡ b.cells
  pub next : c.next ≡ moved_on b.next (turned b.cells b.next)
  pub posted : c.posts ≡ b.posts
