use Rattle.std.proofs.Common.{ℕ, ◌++◌, refl, ap, ◌∙◌}
use Rattle.agreement.specs.CoordinatorRules as C
use Rattle.agreement.specs.Logs.{log_of}
use Rattle.agreement.specs.Turns.{reply_of}
use Rattle.agreement.specs.World.{apart}
use Rattle.coordinator.specs.Calls.{coord_of}
use Rattle.desks.specs.Rows.{written}
use Rattle.desks.specs.Worlds.{world_of}
use Rattle.desks.proofs.WorldFacts.{head-does, apart-does}
use Rattle.desks.proofs.desk.Desk.resend.Goals as goal

pub returns-clause-step : goal.returns-clause-step
returns-clause-step g c =
    let d = c.args.self.now in
    let l = log_of g.C.Log d.log in
    let h = head-does (λ (t : ℕ). apart l (C.resend t 16 (coord_of d.coordinator))) d.transaction 16 (world_of g.C.Log g.P.Log g.N.Line d) d.coordinator c.resend-answer.new.self l
    d.given.items c.keep.new.given.items c.resend-answer.new.outbox (reply_of c.resend-answer.result) d.number refl (apart-does _ _ _ l _ _ _ c.resend-answer.ensures)
    (c.keep.ensures ∙ ap (λ ws. ws ++ written c.resend-answer.new.outbox) c.in_ok-reserve.ensures.items) in
    (record { possible = _; made = h.0 }, h.1)
