use Rattle.std.proofs.Common.{◌≡◌, ◌++◌, map, take, drop}
use Rattle.agreement.specs.CoordinatorRules.{ask}
use Rattle.coordinator.specs.Groups.{same}
use Rattle.coordinator.proofs.Coordinator.ask.Given as goal

abbrev pub invariant-loop-place : goal.invariant-loop-place
invariant-loop-place l =
    let f = ask (same l.durability) in
    l.place-items ≡ map f (take l.place-index l.fn.self.table) ++ drop l.place-index l.fn.self.table
