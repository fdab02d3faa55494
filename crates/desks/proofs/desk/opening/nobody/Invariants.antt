use Rattle.std.proofs.Common.{◌≡◌, replicate}
use Rattle.desks.specs.declared.desk.Party.TheVariants.{Nobody}
use Rattle.desks.proofs.desk.opening.nobody.Given as goal

abbrev pub invariant-loop : goal.invariant-loop
invariant-loop g l = l.seats.items ≡ replicate l.counter Nobody
