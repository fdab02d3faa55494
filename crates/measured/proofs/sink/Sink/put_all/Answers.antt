use Rattle.std.proofs.lemmas.List.{take_more}
use Rattle.measured.proofs.SinkFacts.{tells-more}
use Rattle.measured.proofs.sink.Sink.put_all.Goals as goal

pub loop-byte-preserved : goal.loop-byte-preserved
loop-byte-preserved c =
    rw (take_more c.args.bytes.now c.loop-byte.byte-index 0 c.loop-byte-test.true)
    (tells-more _ _ _ _ _ c.loop-byte.invariant c.put.ensures)
