use Rattle.std.proofs.Common.{◌≡◌, ℕ}
use Rattle.records.specs.Pairs.{covers, pairs_in}
use Rattle.seats.specs.Sets.{member}
use Rattle.records.specs.Ranged.{held}
use Rattle.records.proofs.ranges.Ranges.read_seats.Given as goal

abbrev pub invariant-loop-offset : goal.invariant-loop-offset
invariant-loop-offset l = (held l.ranges ≡ pairs_in l.offset-index l.cells) × ((k : ℕ) → member l.seats.bits k ≡ covers (held l.ranges) k)
