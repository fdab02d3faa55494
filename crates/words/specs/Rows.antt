-- What it means to read a row, and the row that is no notification's.
use Rattle.std.specs.Prelude.{◌≡◌, None, Option}
use Rattle.std.specs.Option.{option_map}
use Rattle.seats.specs.Exactly.{Exactly}
use Rattle.words.specs.Notes.{note_of, note_in, row_of}
use Rattle.words.specs.declared.notification.Notification.{Notification}
use Rattle.words.specs.declared.row.Row.{Row}

-- the answer is the notification whose row it is, or none where it is no notification's, and so what the row stands for
pub record Reads (w : Row) (answer : Option Notification) : Type 0 where
  pub exact : Exactly (λ (n : Notification). w ≡ row_of (note_of n)) answer
  pub note : option_map note_of answer ≡ note_in w

-- all its numbers are 0
abbrev pub blank_row : Row
blank_row = record { transaction = 0; seat = 0; kind = 0 }

-- it is this row, and so no notification's: no kind has the number 0
pub record IsBlank (w : Row) : Type 0 where
  pub row : w ≡ blank_row
  pub none : note_in w ≡ None
