use Rattle.std.proofs.Common.{◌++◌}
use Rattle.logs.specs.Listing.{records_left}
use Rattle.logs.proofs.ListingFacts.{steps, progress}
use Rattle.logs.proofs.listing.RecordsIterator.next.Goals as goal

pub returns-clause-steps : goal.returns-clause-steps
returns-clause-steps g c =
    let m = g.L.Log in
    let l = c.args.self.now.log.now in
    let old = c.args.self.now.numbers in
    let new = c.next.new.self in
    let h = c.in_ok-number.ensures.steps in
    steps (m.safe l ++ m.loose l) old.start old.end c.in_ok-number.number new.start new.end c.read.result h.0 h.1.0 h.1.1 h.1.2 c.read.ensures

pub returns-clause-goes : goal.returns-clause-goes
returns-clause-goes g c = progress (records_left g.L.Log) c.args.self.now (record { log = c.args.self.now.log; numbers = c.next.new.self }) c.read.result (returns-clause-steps g c)
