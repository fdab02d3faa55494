-- Whose the closing right is.
use Rattle.std.specs.Prelude.{◌≡◌, ℕ, Some, Option}
use Rattle.coordinator.specs.declared.right.ClosingRight.{ClosingRight}

abbrev pub RightOwn : ℕ → Option ClosingRight → Type 0
RightOwn t o = (r : ClosingRight) → o ≡ Some r → r.transaction ≡ t
