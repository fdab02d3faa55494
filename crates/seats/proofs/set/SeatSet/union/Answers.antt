use Rattle.seats.proofs.SetFacts.{member-or}
use Rattle.seats.proofs.set.SeatSet.union.Goals as goal

pub returns : goal.returns
returns c k = member-or c.args.self.bits c.args.other.bits k
