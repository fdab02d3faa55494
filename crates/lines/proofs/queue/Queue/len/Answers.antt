use Rattle.std.proofs.Common.{sym, ◌∙◌}
use Rattle.lines.proofs.RingFacts.{length-any}
use Rattle.lines.proofs.queue.Queue.len.Goals as goal

pub returns : goal.returns
returns g c = c.min.ensures ∙ sym (length-any _ _ _)
