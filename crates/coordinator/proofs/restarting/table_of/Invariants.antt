use Rattle.std.proofs.Common.{◌≡◌, ◌-◌, ◌++◌, map, replicate}
use Rattle.std.specs.List.{range_with_len}
use Rattle.agreement.specs.CoordinatorRules.{seated_if}
use Rattle.agreement.specs.Names.{Vacant}
use Rattle.seats.specs.Sets.{member}
use Rattle.coordinator.proofs.restarting.table_of.Given as goal

-- the places so far are the set's, the others vacant
abbrev pub invariant-loop-number : goal.invariant-loop-number
invariant-loop-number l = l.table ≡ map (λ s. seated_if (member l.seats.bits s)) (range_with_len 0 l.number) ++ replicate (16 - l.number) Vacant
