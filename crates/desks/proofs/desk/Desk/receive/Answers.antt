use Rattle.std.proofs.Common.{ℕ, ◌++◌, refl, ap, ◌∙◌}
use Rattle.agreement.specs.CoordinatorRules as C
use Rattle.agreement.specs.Logs.{log_of}
use Rattle.agreement.specs.Turns.{reply_of}
use Rattle.agreement.specs.World.{apart}
use Rattle.coordinator.specs.Calls.{coord_of}
use Rattle.words.specs.Notes.{note_of}
use Rattle.desks.specs.Rows.{written}
use Rattle.desks.specs.Worlds.{world_of}
use Rattle.desks.proofs.WorldFacts.{head-does, apart-does, taken-at, taken-in}
use Rattle.desks.proofs.desk.Desk.receive.Goals as goal

pub returns-clause-step : goal.returns-clause-step
returns-clause-step g c =
    let d = c.args.self.now in
    let n = note_of c.in-Some.notification.now in
    let a = c.in-Some.ensures.lookup in
    let at = taken-at c.deref.result.now d.taken.items c.args.number c.in-Some.notification.now c.deref.ensures.value a.3.0 (a.3.1 c.in-Some.notification.now) in
    let l = log_of g.C.Log d.log in
    let h = head-does (λ (t : ℕ). apart l (C.receive t 16 n (coord_of d.coordinator))) d.transaction 16 (world_of g.C.Log g.P.Log g.N.Line d) d.coordinator c.receive-answer.new.self l
    d.given.items c.keep.new.given.items c.receive-answer.new.outbox (reply_of c.receive-answer.result) d.number refl (apart-does _ _ _ l _ _ _ c.receive-answer.ensures)
    (c.keep.ensures ∙ ap (λ ws. ws ++ written c.receive-answer.new.outbox) c.in_ok-reserve.ensures.items) in
    (n, at, (record { possible = taken-in d.taken.items c.args.number n at; made = h.0 }, h.1))
