use Rattle.std.proofs.Common.{ℕ, [], refl, ◌∙◌, sym, Ok, append-nil}
use Rattle.agreement.specs.ParticipantRules as P
use Rattle.agreement.specs.ParticipantRules.{Part}
use Rattle.desks.specs.Worlds.{world_of, store_of}
use Rattle.desks.proofs.WorldFacts.{sits, acts-does}
use Rattle.desks.proofs.desk.Desk.restart_at.Goals as goal

pub returns-clause-step : goal.returns-clause-step
returns-clause-step g c =
    let d = c.args.self.now in
    let x = c.in-Joined.store in
    let t = d.transaction in
    let s = c.args.seat.value in
    let k = g.P.Log.survives x.log c.args.n in
    let i = c.from.ensures ∙ c.number.ensures in
    let a = sits g.P.Log t d.seats.items c.from.result s c.index_mut.result.now x d.own_seats d.full c.args.seat.small i c.index_mut.ensures.value c.in-Joined.is in
    let h = acts-does g.P.Log (λ (u v : ℕ) (p : Part). P.restart u v k p.log) t s 0 c.from.result (world_of g.C.Log g.P.Log g.N.Line d) x c.restart.new.self.participant c.restart.new.self.log d.seats.items
    d.given.items d.given.items [] (Ok 0) a.1 a.2 i a.0 refl refl (record { leaves = c.restart.ensures; rows = refl }) (sym (append-nil d.given.items)) in
    (x, a.3, (store_of g.P.Log x, a.0, record { possible = _; made = h.0 }, h.1))
