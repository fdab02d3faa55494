use Rattle.std.proofs.Common.{◌≡◌, ◌++◌}
use Rattle.agreement.specs.Logs.{first, is_decision}
use Rattle.logs.specs.Listing.{records_left}
use Rattle.coordinator.proofs.Coordinator.decided.Given as goal

-- the first Decision is not behind
abbrev pub invariant-loop-record : goal.invariant-loop-record
invariant-loop-record g l =
    first (is_decision l.self.transaction) (records_left g.L.Log l.record-iterator)
    ≡ first (is_decision l.self.transaction) (g.L.Log.safe l.log ++ g.L.Log.loose l.log)
