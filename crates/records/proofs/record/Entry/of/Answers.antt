use Rattle.std.proofs.Common.{◌≡◌, ℕ, Some, sym, refl, ◌∙◌}
use Rattle.seats.specs.Exactly.{Exactly}
use Rattle.records.specs.Recs.{kind_of, seats_of}
use Rattle.records.specs.declared.record.Entry.{Entry}
use Rattle.records.specs.declared.record.Entry.TheVariants.{Decision}
use Rattle.seats.proofs.ExactFacts.{exactly-some}
use Rattle.records.proofs.ValueFacts.{same-entry}
use Rattle.records.proofs.record.Entry.of.Goals as goal

-- the entry that a kind and a set make, if there is one
found : (kind bits : ℕ) (a : Entry) → kind ≡ kind_of a → bits ≡ seats_of a → Exactly (λ (e : Entry). (kind ≡ kind_of e) × (bits ≡ seats_of e)) (Some a)
found kind bits a k b = exactly-some (λ (e : Entry). (kind ≡ kind_of e) × (bits ≡ seats_of e)) a (k, b) (λ e q. same-entry a e (sym k ∙ q.0) (sym b ∙ q.1))

pub returns-then-kind-eq-DECISION : goal.returns-then-kind-eq-DECISION
returns-then-kind-eq-DECISION c = found c.args.kind c.args.seats.bits (Decision c.args.seats) c.if-kind-eq-DECISION.true refl
