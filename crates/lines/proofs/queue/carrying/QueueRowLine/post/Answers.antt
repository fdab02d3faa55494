use Rattle.std.proofs.Common.{rules}
use Rattle.lines.proofs.TakeFacts.{posted-within}
use Rattle.lines.proofs.queue.carrying.QueueRowLine.post.Goals as goal

pub returns-clause-waits : goal.returns-clause-waits
returns-clause-waits c = search (rules, posted-within)
