-- Values whose numbers tell them apart: entries and records.
use mathlib.Core.HLevel.{is_prop→PathP}
use Rattle.std.proofs.Common.{◌≡◌, ℕ, ◌^◌, ◌<◌, ap, arith}
use native.Mathlib.Bridge.{le_prop}
use Rattle.std.proofs.lemmas.Nat.{pow_below}
use Rattle.records.specs.Recs.{Rec, kind_of, seats_of, model_of}
use Rattle.seats.specs.Sizes.{seat_count}
use Rattle.records.specs.declared.record.Entry.{Entry}
use Rattle.records.specs.declared.record.Entry.TheVariants.{Decision, Vote, Kept, Undone}
use Rattle.records.specs.declared.record.Record.{Record}
use Rattle.seats.proofs.SetFacts.{pow-same}
use Rattle.seats.proofs.ValueFacts.{same-seat, same_set}

-- kinds are told apart by their numbers
no_kind : {X : Type 0} (m n : ℕ) → m ≡ n → (m ≡ n → ⊥) → X
no_kind m n e h = absurd (h e)

pub same-entry : (a b : Entry) → kind_of a ≡ kind_of b → seats_of a ≡ seats_of b → a ≡ b
same-entry (Decision s) (Decision r) k e = ap Decision (same_set s r e)
same-entry (Vote s) (Vote r) k e = ap Vote (same-seat s r (pow-same s.value r.value e))
same-entry (Kept s) (Kept r) k e = ap Kept (same-seat s r (pow-same s.value r.value e))
same-entry (Undone s) (Undone r) k e = ap Undone (same-seat s r (pow-same s.value r.value e))
same-entry (Decision s) (Vote r) k e = no_kind 1 2 k (omega arith)
same-entry (Decision s) (Kept r) k e = no_kind 1 3 k (omega arith)
same-entry (Decision s) (Undone r) k e = no_kind 1 4 k (omega arith)
same-entry (Vote s) (Decision r) k e = no_kind 2 1 k (omega arith)
same-entry (Vote s) (Kept r) k e = no_kind 2 3 k (omega arith)
same-entry (Vote s) (Undone r) k e = no_kind 2 4 k (omega arith)
same-entry (Kept s) (Decision r) k e = no_kind 3 1 k (omega arith)
same-entry (Kept s) (Vote r) k e = no_kind 3 2 k (omega arith)
same-entry (Kept s) (Undone r) k e = no_kind 3 4 k (omega arith)
same-entry (Undone s) (Decision r) k e = no_kind 4 1 k (omega arith)
same-entry (Undone s) (Vote r) k e = no_kind 4 2 k (omega arith)
same-entry (Undone s) (Kept r) k e = no_kind 4 3 k (omega arith)

pub same-record : (a b : Record) → a.transaction ≡ b.transaction → a.entry ≡ b.entry → a ≡ b
same-record a b e f = λ i. record { transaction = e i; entry = f i; small = is_prop→PathP (λ j. e j < 2 ^ 32) (λ j. le_prop) a.small b.small i }

pub same-rec : (a b : Rec) → a.transaction ≡ b.transaction → a.kind ≡ b.kind → a.seats ≡ b.seats → a ≡ b
same-rec a b t k s = λ i. record { transaction = t i; kind = k i; seats = s i }

-- a record is told by what it means
pub same-model : (a b : Record) → model_of a ≡ model_of b → a ≡ b
same-model a b e =
    same-record a b (ap (λ (m : Rec). m.transaction) e)
    (same-entry a.entry b.entry (ap (λ (m : Rec). m.kind) e) (ap (λ (m : Rec). m.seats) e))

-- no entry has a seat past the last
pub seats-below : (e : Entry) → seats_of e < 2 ^ seat_count
seats-below (Decision s) = s.small
seats-below (Vote s) = pow_below s.value seat_count s.small
seats-below (Kept s) = pow_below s.value seat_count s.small
seats-below (Undone s) = pow_below s.value seat_count s.small
