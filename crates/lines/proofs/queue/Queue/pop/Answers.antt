use Rattle.std.proofs.Common.{rules}
use Rattle.lines.proofs.RingFacts.{any-pop, pop-in}
use Rattle.lines.proofs.queue.Queue.pop.Goals as goal

pub bounds-self-head : goal.bounds-self-head
bounds-self-head g c = search (rules, pop-in)

pub returns : goal.returns
returns g c = search (rules, any-pop)
