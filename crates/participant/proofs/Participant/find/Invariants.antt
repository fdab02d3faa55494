use Rattle.std.proofs.Common.{◌≡◌, ◌++◌}
use Rattle.agreement.specs.ParticipantRules.{found}
use Rattle.logs.specs.Listing.{records_left}
use Rattle.participant.proofs.ScanFacts.{scanned}
use Rattle.participant.proofs.Participant.find.Given as goal

abbrev pub invariant-loop-record : goal.invariant-loop-record
invariant-loop-record g l =
    scanned l.self.transaction l.self.seat.value l.voted (records_left g.L.Log l.record-iterator)
    ≡ found l.self.transaction l.self.seat.value (g.L.Log.safe l.log ++ g.L.Log.loose l.log)
