use Rattle.std.proofs.Common.{sym, arith, lit<}
use Rattle.records.proofs.PairFacts.{push-room, parted-push, after_push}
use Rattle.records.proofs.ranges.Ranges.push.Goals as goal

pub push-requires : goal.push-requires
push-requires c =
    let s = c.args.self.now in
    let r = push-room 8 s.pairs.items c.args.pair s.apart c.requires.begins c.requires.some c.requires.within in
    (lit< tt, r)

pub invariant_of-self : goal.invariant_of-self
invariant_of-self c =
    let s = c.args.self.now in
    let q = c.args.pair in
    let r = push-room 8 s.pairs.items q s.apart c.requires.begins c.requires.some c.requires.within in
    let e = c.push.ensures.items in
    let n = c.push.ensures.len in
    record {
      few = omega arith;
      apart = rw e (parted-push 0 16 s.pairs.items q s.apart c.requires.begins c.requires.some c.requires.within);
      begins = rw e (sym (after_push 0 s.pairs.items q));
    }
