use Rattle.std.proofs.Common.{◌≡◌, take}
use Rattle.records.specs.Pairs.{padded}
use Rattle.records.proofs.ranges.Ranges.cells.Given as goal

abbrev pub invariant-loop-i : goal.invariant-loop-i
invariant-loop-i l = l.cells ≡ padded 8 (take l.i l.self.pairs.items)
