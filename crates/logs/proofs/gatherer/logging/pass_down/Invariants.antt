use Rattle.std.proofs.Common.{◌≡◌, ◌++◌}
use Rattle.logs.specs.Gathering.{first_of}
use Rattle.logs.proofs.gatherer.logging.pass_down.Given as goal

abbrev pub invariant-loop-record : goal.invariant-loop-record
invariant-loop-record g l =
    (g.L.Log.capacity l.below ≡ g.L.Log.capacity l.initial.below)
    × (g.L.Log.safe l.below ≡ g.L.Log.safe l.initial.below)
    × (g.L.Log.loose l.below ≡ g.L.Log.loose l.initial.below ++ first_of l.record-index l.records)
