use Rattle.std.proofs.Common.{◌≡◌, ◌-◌, ◌++◌, map, replicate, get_or, None}
use Rattle.std.specs.List.{range_with_len}
use Rattle.edges.proofs.stage.calling.table_of.Given as goal

-- the places so far are the coordinator's, the others vacant
abbrev pub invariant-loop-number : goal.invariant-loop-number
invariant-loop-number l = l.table ≡ map (λ s. get_or l.coordinator.table s None) (range_with_len 0 l.number) ++ replicate (16 - l.number) None
