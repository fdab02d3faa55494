-- Adding and reading, for any log.
use Rattle.std.proofs.Common.{◌≡◌, ℕ, ◌+◌, ◌<◌, List, [], ◌∷◌, ◌++◌, length, Some, None, Ok, Option, sym, ap}
use Rattle.std.proofs.lemmas.Bool.{cond-true, lt-ltb}
use Rattle.std.specs.Option.{option_map}
use Rattle.seats.proofs.ExactFacts.{exactly-has, exactly-never}
use Rattle.seats.specs.Exactly.{Exactly}
use Rattle.records.specs.Recs.{Rec, model_of}
use Rattle.records.specs.declared.record.Record.{Record}
use Rattle.logs.specs.Adding.{loose_after, add_answer}

module _ (most : ℕ) (safe loose : List Rec) where
  pub loose-on : (r : Rec) → length safe + length loose < most → loose ++ r ∷ [] ≡ loose_after most safe loose r
  loose-on r h = sym (cond-true _ _ _ (lt-ltb _ _ h))

  pub answer-on : length safe + length loose < most → Ok tt ≡ add_answer most safe loose
  answer-on h = sym (cond-true _ _ _ (lt-ltb _ _ h))

-- an exact reading of something that some record has answers that record
pub reads : (P : Record → Type 0) (w : Rec) (o : Option Record) → Exactly P o → ((r : Record) → P r → model_of r ≡ w) → (((r : Record) → P r → ⊥) → ⊥) → option_map model_of o ≡ Some w
reads P w (Some r) h means some = ap Some (means r (exactly-has P r h))
reads P w None h means some = absurd (some (exactly-never P h))
