use Rattle.std.proofs.Common.{refl}
use Rattle.measured.proofs.SinkFacts.{tells-put}
use Rattle.measured.proofs.sink.Sink.put.Goals as goal

pub returns-then-self : goal.returns-then-self
returns-then-self c = tells-put _ _ _ c.if-self.true refl refl refl
