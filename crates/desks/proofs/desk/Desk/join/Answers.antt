use Rattle.std.proofs.Common.{◌≡◌, refl, ◌∙◌, sym, inr, subst, get_or}
use Rattle.agreement.specs.Logs.{log_of}
use Rattle.desks.specs.Worlds.{world_of}
use Rattle.desks.proofs.WorldFacts.{fresh-log, stale-log, joins-does}
use Rattle.desks.proofs.desk.Desk.join.Goals as goal

pub returns-then-not-is_fresh-clause-step : goal.returns-then-not-is_fresh-clause-step
returns-then-not-is_fresh-clause-step g c =
    let e = c.if-not-is_fresh.true in
    (refl, inr (stale-log c.args.self.now.transaction (log_of g.P.Log c.args.log) (sym c.is_fresh.ensures ∙ e)), refl)

pub returns-clause-step : goal.returns-clause-step
returns-clause-step g c =
    let d = c.args.self.now in
    let i = c.from.ensures ∙ c.number.ensures in
    let h = joins-does g.P.Log d.transaction c.args.seat.value c.from.result (world_of g.C.Log g.P.Log g.N.Line d) d.seats.items c.join.result c.args.log d.full c.args.seat.small i (subst (λ p. p ≡ get_or d.seats.items c.from.result p) c.in-Awaited.is c.index_mut-place.ensures.value) refl c.join.ensures.state in
    (h.0, record { possible = fresh-log d.transaction (log_of g.P.Log c.args.log) (sym c.is_fresh.ensures ∙ c.if-not-is_fresh.false); made = h.1 })
