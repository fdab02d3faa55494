-- What a record means: the number of its transaction, the number of its kind, and its seats as bits.
use Rattle.std.specs.Prelude.{ℕ, ◌^◌}
use Rattle.records.specs.declared.record.Entry.{Entry}
use Rattle.records.specs.declared.record.Entry.TheVariants.{Decision, Vote, Kept, Undone}
use Rattle.records.specs.declared.record.Record.{Record}

pub record Rec : Type 0 where
  pub transaction : ℕ
  pub kind : ℕ
  pub seats : ℕ

abbrev pub kind_of : Entry → ℕ
kind_of (Decision s) = 1
kind_of (Vote s) = 2
kind_of (Kept s) = 3
kind_of (Undone s) = 4

abbrev pub seats_of : Entry → ℕ
seats_of (Decision s) = s.bits
seats_of (Vote s) = 2 ^ s.value
seats_of (Kept s) = 2 ^ s.value
seats_of (Undone s) = 2 ^ s.value

abbrev pub model_of : Record → Rec
model_of r = record { transaction = r.transaction; kind = kind_of r.entry; seats = seats_of r.entry }
