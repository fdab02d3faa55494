-- What a notification means, and the row that stands for it.
use Rattle.std.specs.Prelude.{ℕ, ◌+◌, ◌*◌, Bool, true, false, cond, List, ◌++◌, Some, None, Option, codes, decimal, nat_lt}
use Rattle.seats.specs.Sizes.{seat_count}
use Rattle.words.specs.Kinds.{kind_number, kind_at, goes_up, kind_name}
use Rattle.words.specs.declared.kind.Kind.{Kind}
use Rattle.words.specs.declared.notification.Notification.{Notification}
use Rattle.words.specs.declared.row.Row.{Row}

pub record Note : Type 0 where
  pub transaction : ℕ
  pub seat : ℕ
  pub kind : Kind

abbrev pub note_of : Notification → Note
note_of n = record { transaction = n.transaction; seat = n.seat.value; kind = n.kind }

abbrev pub row_of : Note → Row
row_of n = record { transaction = n.transaction; seat = n.seat; kind = kind_number n.kind }

-- a transaction, a seat that there is, and a kind that there is
abbrev pub note_by : ℕ → ℕ → Bool → Option Kind → Option Note
note_by t s false k = None
note_by t s true None = None
note_by t s true (Some k) = Some (record { transaction = t; seat = s; kind = k })

-- what a row stands for, if it is a notification's
unfoldable pub note_in : Row → Option Note
note_in w = note_by w.transaction w.seat (nat_lt w.seat seat_count) (kind_at w.kind)

-- the cell of a notification on a board: two for each seat, the second for what goes to the coordinator
abbrev pub cell_of : Note → ℕ
cell_of n = 2 * n.seat + cond (goes_up n.kind) 1 0

-- how a notification is printed
abbrev pub note_text : Note → List ℕ
note_text n = codes "transaction " ++ (decimal n.transaction ++ (codes ", seat " ++ (decimal n.seat ++ (codes ", " ++ kind_name n.kind))))
