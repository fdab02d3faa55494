use Rattle.std.proofs.Common.{sym}
use Rattle.seats.proofs.SetFacts.{member-high}
use Rattle.seats.proofs.set.SeatSet.has_number.Goals as goal

pub returns-in-None : goal.returns-in-None
returns-in-None c = sym (member-high 16 c.args.self.bits c.args.number c.args.self.small c.in-None.ensures)
