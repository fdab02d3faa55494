use Rattle.std.proofs.Common.{ℕ, ◌++◌, refl, ap, ◌∙◌}
use Rattle.agreement.specs.ParticipantRules as P
use Rattle.agreement.specs.ParticipantRules.{Part}
use Rattle.desks.specs.Rows.{written}
use Rattle.desks.specs.Worlds.{world_of, store_of}
use Rattle.desks.proofs.WorldFacts.{sits, acts-does}
use Rattle.desks.proofs.desk.Desk.settle_at.Goals as goal

pub returns-clause-step : goal.returns-clause-step
returns-clause-step g c =
    let d = c.args.self.now in
    let x = c.in-Joined.store in
    let t = d.transaction in
    let s = c.args.seat.value in
    let i = c.from.ensures ∙ c.number.ensures in
    let a = sits g.P.Log t d.seats.items c.from.result s c.index_mut.result.now x d.own_seats d.full c.args.seat.small i c.index_mut.ensures.value c.in-Joined.is in
    let h = acts-does g.P.Log (λ (u v : ℕ) (p : Part). P.settle u v 16 p.state p.log) t s 16 c.from.result (world_of g.C.Log g.P.Log g.N.Line d) x c.settle-answer.new.self c.settle-answer.new.log d.seats.items
    d.given.items c.keep.new.given.items c.settle-answer.new.outbox c.settle-answer.result a.1 a.2 i a.0 refl refl c.settle-answer.ensures
    (c.keep.ensures ∙ ap (λ ws. ws ++ written c.settle-answer.new.outbox) c.in_ok-reserve.ensures.items) in
    (store_of g.P.Log x, a.0, record { possible = _; made = h.0 }, h.1)
