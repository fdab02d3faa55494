use Rattle.std.proofs.Common.{rules}
use Rattle.lines.proofs.TakeFacts.{taken-within}
use Rattle.lines.proofs.queue.carrying.QueueRowLine.take.Goals as goal

pub returns-in_err-pop-clause-waits : goal.returns-in_err-pop-clause-waits
returns-in_err-pop-clause-waits c = search (rules, taken-within)

pub returns-clause-waits : goal.returns-clause-waits
returns-clause-waits c = search (rules, taken-within)
