-- What a reading answers.
use Rattle.std.specs.Prelude.{◌≡◌, Some, Option}

-- the answer is x exactly if x has the property; so it is absence exactly if nothing has it
abbrev pub Exactly : {A : Type 0} → (A → Type 0) → Option A → Type 0
Exactly {A = A} P o = (x : A) → (o ≡ Some x → P x) × (P x → o ≡ Some x)
