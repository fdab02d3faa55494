use Rattle.std.proofs.Common.{◌≡◌}
use Rattle.edges.specs.Expected.{registering}
use Rattle.edges.specs.Stages.{Stands}
use Rattle.edges.proofs.seated.register_all.Given as goal

abbrev pub invariant-loop : goal.invariant-loop
invariant-loop l = Stands (registering l.counter) l.stage × (l.right.transaction ≡ 7)
