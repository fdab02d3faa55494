use Rattle.std.proofs.Common.{get_or, None, inl, rules, arith}
use Rattle.coordinator.proofs.TableFacts.{filled_more}
use Rattle.edges.proofs.stage.calling.table_of.Goals as goal

pub loop-number-preserved : goal.loop-number-preserved
loop-number-preserved c = filled_more (λ s. get_or c.args.coordinator.now.table s None) 16 c.loop-number.number c.loop-number.table _ (omega arith) c.loop-number.invariant (inl (search rules))
