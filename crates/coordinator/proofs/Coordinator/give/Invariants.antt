use Rattle.coordinator.specs.Groups.{passes}
use Rattle.coordinator.proofs.GivingFacts.{Laying}
use Rattle.coordinator.proofs.Coordinator.give.Given as goal

abbrev pub invariant-loop-number : goal.invariant-loop-number
invariant-loop-number l = Laying l.self.transaction l.kind (passes l.group) l.self.table l.fn.outbox l.number l.sent l.outbox
