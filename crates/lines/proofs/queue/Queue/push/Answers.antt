use Rattle.std.proofs.Common.{rules}
use Rattle.lines.proofs.RingFacts.{any-on, any-round, any-full}
use Rattle.lines.proofs.queue.Queue.push.Goals as goal

pub returns-after-self-left : goal.returns-after-self-left
returns-after-self-left g c = search (rules, any-on, any-round)

pub returns-else-self : goal.returns-else-self
returns-else-self g c = search (rules, any-full)
