use Rattle.desks.specs.Worlds.{world_of}
use Rattle.agreement.specs.Logs.{log_of}
use Rattle.desks.proofs.WorldFacts.{wakes-does}
use Rattle.desks.proofs.desk.Desk.restarted.Goals as goal

pub returns-clause-step : goal.returns-clause-step
returns-clause-step g c =
    let d = c.args.self in
    let a = c.restart-coordinator.ensures in
    let h = wakes-does d.transaction (g.C.Log.survives d.log c.args.n) (world_of g.C.Log g.P.Log g.N.Line d) d.coordinator c.restart-coordinator.result (log_of g.C.Log c.restart-coordinator.new.log) d.number a in
    (record { possible = _; made = h.0 }, h.1)
