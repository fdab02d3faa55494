use Rattle.std.proofs.Common.{arith}
use Rattle.std.proofs.Math.Nat.{mod-add-mod}
use Rattle.measured.specs.Coding.{mixed}
use Rattle.measured.proofs.coding.mix.Goals as goal

pub returns : goal.returns
unfolding mixed
returns c = grind (arith, mod-add-mod)
