-- What is written of records.
use Rattle.std.specs.Prelude.{ℕ, ◌==◌, cond, List, ◌++◌, codes, decimal}
use Rattle.records.specs.Recs.{seats_of}
use Rattle.records.specs.declared.record.Entry.{Entry}
use Rattle.records.specs.declared.record.Entry.TheVariants.{Decision, Vote, Kept, Undone}
use Rattle.records.specs.declared.record.Record.{Record}
use Rattle.seats.specs.Texts.{seat_text}

abbrev pub kind_text : Entry → List ℕ
kind_text (Decision s) = codes "Decision"
kind_text (Vote s) = codes "Vote"
kind_text (Kept s) = codes "Kept"
kind_text (Undone s) = codes "Undone"

-- a Decision has any number of seats, the others have one
abbrev pub noun_text : Entry → List ℕ
noun_text (Decision s) = cond (s.bits == 0) (codes "no seats") (codes "seats")
noun_text (Vote s) = codes "seat"
noun_text (Kept s) = codes "seat"
noun_text (Undone s) = codes "seat"

-- transaction T: KIND, seats A B C
abbrev pub record_text : Record → List ℕ
record_text r =
    codes "transaction " ++ (decimal r.transaction ++ (codes ": " ++ (kind_text r.entry ++ (codes ", " ++ (noun_text r.entry ++ seat_text (seats_of r.entry))))))
