use Rattle.std.proofs.Common.{◌≡◌, [], replicate}
use Rattle.logs.specs.Trays.{safe_in, loose_in}
use Rattle.edges.specs.Votes.{filler}
use Rattle.edges.proofs.storing.tray_with.Given as goal

abbrev pub invariant-loop : goal.invariant-loop
invariant-loop l = (safe_in l.log ≡ []) × (loose_in l.log ≡ replicate l.counter filler)
