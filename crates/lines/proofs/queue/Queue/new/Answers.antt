use Rattle.std.proofs.Common.{rules}
use Rattle.lines.proofs.RingFacts.{ring-none}
use Rattle.lines.proofs.queue.Queue.new.Goals as goal

pub returns : goal.returns
returns g c = search (rules, ring-none)
