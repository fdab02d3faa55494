use Rattle.std.proofs.Common.{◌≡◌, length, ap, arith}
use Rattle.records.proofs.CellFacts.{padded-more}
use Rattle.records.proofs.ranges.Ranges.cells.Goals as goal

pub loop-i-preserved : goal.loop-i-preserved
loop-i-preserved c =
    let s = c.args.self.now in
    let few = s.few in
    let i = c.loop-i.i in
    let e : c.as_slice-pair-items.result.now ≡ s.pairs.items = c.as_slice-pair-items.ensures.value in
    let m : length c.as_slice-pair-items.result.now ≡ length s.pairs.items = ap length e in
    let inv = c.loop-i.invariant in
    rw (e, inv) (padded-more 8 s.pairs.items i (record { offset = 0; length = 0 }) (omega arith) (omega arith))
