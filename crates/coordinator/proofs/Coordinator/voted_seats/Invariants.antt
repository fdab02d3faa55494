use Rattle.std.proofs.Common.{◌≡◌, ℕ, ◌&&◌, get_or, ltb, None}
use Rattle.agreement.specs.CoordinatorRules.{voted_durable}
use Rattle.seats.specs.Sets.{member}
use Rattle.coordinator.proofs.Coordinator.voted_seats.Given as goal

abbrev pub invariant-loop-number : goal.invariant-loop-number
invariant-loop-number l = (k : ℕ) → member l.seats.bits k ≡ (ltb k l.number && voted_durable (get_or l.self.table k None))
