-- What a queue means, whatever its numbers are.
use Rattle.std.specs.Prelude.{◌≡◌, ℕ, ◌+◌, ◌%◌, ◌^◌, cond, List, length, Some, None, Option, nat_lt}
use Rattle.words.specs.Notes.{Note, note_in, row_of}
use Rattle.lines.specs.Ring.{ring, first, rest, pushed}
use Rattle.lines.specs.declared.queue.Queue.{Queue}
use Rattle.words.specs.declared.row.Row.{Row}

module _ {T : Type 0} where
  abbrev pub held : Queue T → List T
  held q = ring q.buffer.now q.head q.len

  -- a number past 64 bits counts as its remainder
  abbrev pub posted : Queue T → ℕ
  posted q = q.posts % 2 ^ 64

  abbrev pub room : Queue T → ℕ
  room q = length q.buffer.now

-- a head past the end stands at the start
abbrev pub start_at : ℕ → ℕ → ℕ
start_at h n = cond (nat_lt h n) h 0

-- what a post does to a queue of rows
pub record QueueStep (q : Queue Row) (n : Note) (p : Queue Row) : Type 0 where
  pub held : held p ≡ pushed (room q) (held q) (row_of n)
  pub room : room p ≡ room q
  pub posted : posted p ≡ (posted q + 1) % 2 ^ 64

-- what a row that may be there stands for
abbrev pub offered : Option Row → Option Note
offered None = None
offered (Some w) = note_in w

-- what a take gives of a queue of rows, and what it does to it: the oldest comes out
pub record QueueGives (q : Queue Row) (o : Option Note) (p : Queue Row) : Type 0 where
  pub gave : o ≡ offered (first (held q))
  pub held : held p ≡ rest (held q)
  pub room : room p ≡ room q
  pub posted : posted p ≡ posted q
