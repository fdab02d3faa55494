use Rattle.std.proofs.Common.{◌/◌, ◌^◌, arith}
use Rattle.std.specs.Int.{w32, trailing_zeros, trailing_ones}
use Rattle.records.specs.Ranged.{held}
use Rattle.seats.specs.Sets.{member}
use Rattle.records.proofs.PairFacts.{runs-unique}
use Rattle.records.proofs.RunFacts.{run, cut-run, cut-end, left-behind, none-left}
use Rattle.records.proofs.ranges.making.RangesFromSeatSet.from.Goals as goal

pub push-requires-clause-some : goal.push-requires-clause-some
push-requires-clause-some c =
    let r = run c.args.seats.bits c.loop-left.k c.loop-left.left c.args.seats.small c.loop-left.invariant.1 (omega arith) in
    simp c.trailing_ones-length.ensures r.some

pub push-requires-clause-within : goal.push-requires-clause-within
push-requires-clause-within c =
    let r = run c.args.seats.bits c.loop-left.k c.loop-left.left c.args.seats.small c.loop-left.invariant.1 (omega arith) in
    simp c.trailing_ones-length.ensures r.within

pub loop-left-preserved : goal.loop-left-preserved
loop-left-preserved c =
    let b = c.args.seats.bits in
    let k = c.loop-left.k in
    let l = c.loop-left.left in
    let ps = c.loop-left.ranges in
    let i = c.loop-left.invariant in
    let r = run b k l c.args.seats.small i.1 (omega arith) in
    let g = trailing_zeros w32 l in
    let w = trailing_ones w32 (l / 2 ^ g) in
    simp (c.push.ensures, c.trailing_ones-length.ensures) (cut-run (member b) 16 k g w (held ps) ps.apart i.0 r.some r.within r.gap r.seats r.end, left-behind b k l g w i.1)

pub returns : goal.returns
returns c =
    let b = c.args.seats.bits in
    let k = c.loop-left.k in
    let l = c.loop-left.left in
    let ps = c.loop-left.ranges in
    let i = c.loop-left.invariant in
    runs-unique 16 (member b) (held ps) ps.apart (cut-end (member b) 16 k (held ps) ps.apart i.0 (none-left b k l i.1 (omega arith)))
