use Rattle.std.proofs.Common.{arith}
use Rattle.agreement.specs.CoordinatorRules.{ask}
use Rattle.coordinator.specs.Groups.{same}
use Rattle.coordinator.proofs.TableFacts.{mapped_more}
use Rattle.coordinator.proofs.Coordinator.ask.Goals as goal

pub loop-place-preserved : goal.loop-place-preserved
loop-place-preserved c = mapped_more (ask (same c.args.durability)) c.args.self.now.table c.loop-place.place-items c.loop-place.place-index _ c.loop-place.invariant (omega arith) c.asked.ensures
