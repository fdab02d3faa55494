use Rattle.std.proofs.Common.{sym, rules}
use Rattle.std.proofs.Output.{has_written_append, has_written_of_eq}
use Rattle.wording.proofs.TextFacts.{hex-more}
use Rattle.wording.proofs.text.HexDisplay.fmt.Goals as goal

pub loop-byte-preserved : goal.loop-byte-preserved
loop-byte-preserved g c = λ plain.
    has_written_of_eq _ _ _ _ _ (sym (hex-more c.args.self.now.0.now c.loop-byte.byte-index c.loop-byte-test.true))
    (has_written_append _ _ _ _ _ _ (c.loop-byte.invariant plain) (search rules))
