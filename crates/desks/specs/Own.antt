-- Whose the closing right and the participants at a desk are.
use Rattle.std.specs.Prelude.{◌≡◌, ℕ, List, Some, Option, slice_index_or}
use Rattle.coordinator.specs.declared.right.ClosingRight.{ClosingRight}
use Rattle.desks.specs.declared.desk.Party.{Party}
use Rattle.desks.specs.declared.desk.Party.TheVariants.{Nobody, Joined}
use Rattle.desks.specs.declared.desk.Store.{Store}

abbrev pub RightOwn : ℕ → Option ClosingRight → Type 0
RightOwn t o = (r : ClosingRight) → o ≡ Some r → r.transaction ≡ t

-- who joined at seat s takes part in transaction t, at seat s
abbrev pub SeatsOwn : {P : Type 0} → ℕ → List (Party P) → Type 0
SeatsOwn {P = P} t ps = (s : ℕ) (x : Store P) → slice_index_or ps s Nobody ≡ Joined x → (x.participant.transaction ≡ t) × (x.participant.seat.value ≡ s)
