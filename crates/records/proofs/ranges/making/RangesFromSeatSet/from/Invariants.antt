use Rattle.std.proofs.Common.{◌≡◌, ◌/◌, ◌^◌}
use Rattle.records.specs.Ranged.{held}
use Rattle.seats.specs.Sets.{member}
use Rattle.records.proofs.PairFacts.{Cut}
use Rattle.records.proofs.ranges.making.RangesFromSeatSet.from.Given as goal

abbrev pub invariant-loop-left : goal.invariant-loop-left
invariant-loop-left l = Cut (member l.fn.seats.bits) 16 l.k 0 (held l.ranges) × (l.left ≡ l.fn.seats.bits / 2 ^ l.k)

abbrev pub decreases-loop-left : goal.decreases-loop-left
decreases-loop-left l = l.left
