use Rattle.std.proofs.Common.{◌≡◌, ◌++◌}
use Rattle.agreement.specs.Logs.{of_transaction, some_is}
use Rattle.logs.specs.Listing.{records_left}
use Rattle.desks.proofs.fresh.is_fresh.Given as goal

-- a record of the transaction is not behind
abbrev pub invariant-loop-record : goal.invariant-loop-record
invariant-loop-record g l =
    some_is (of_transaction l.transaction) (records_left g.L.Log l.record-iterator) ≡ some_is (of_transaction l.transaction) (g.L.Log.safe l.log ++ g.L.Log.loose l.log)
