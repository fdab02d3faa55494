use Rattle.std.proofs.Common.{◌≡◌}
use Rattle.measured.specs.Coding.{encode_sum}
use Rattle.measured.proofs.coding.measured_encode.Given as goal

abbrev pub invariant-loop-i : goal.invariant-loop-i
invariant-loop-i l = l.sum ≡ encode_sum l.kind l.i
