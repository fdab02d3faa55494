use Rattle.std.proofs.Common.{ℕ, ◌++◌, refl, ap, ◌∙◌}
use Rattle.agreement.specs.ParticipantRules as P
use Rattle.agreement.specs.ParticipantRules.{Part}
use Rattle.words.specs.Notes.{note_of}
use Rattle.desks.specs.Rows.{written}
use Rattle.desks.specs.Worlds.{world_of, store_of}
use Rattle.desks.proofs.WorldFacts.{sits, acts-does, own-acted, taken-at, taken-in}
use Rattle.desks.proofs.desk.Desk.receive_at.Goals as goal

pub returns-clause-step : goal.returns-clause-step
returns-clause-step g c =
    let d = c.args.self.now in
    let x = c.in-Joined.store in
    let t = d.transaction in
    let s = c.args.seat.value in
    let n = note_of c.in-Some.notification.now in
    let k = c.in-Some.ensures.lookup in
    let at = taken-at c.deref.result.now d.taken.items c.args.number c.in-Some.notification.now c.deref.ensures.value k.3.0 (k.3.1 c.in-Some.notification.now) in
    let i = c.from.ensures ∙ c.number.ensures in
    let a = sits g.P.Log t d.seats.items c.from.result s c.index_mut.result.now x d.own_seats d.full c.args.seat.small i c.index_mut.ensures.value c.in-Joined.is in
    let h = acts-does g.P.Log (λ (u v : ℕ) (p : Part). P.receive u v 16 n p.state p.log) t s 16 c.from.result (world_of g.C.Log g.P.Log g.N.Line d) x c.receive-answer.new.self c.receive-answer.new.log d.seats.items
    d.given.items c.keep.new.given.items c.receive-answer.new.outbox c.receive-answer.result a.1 a.2 i a.0 refl refl c.receive-answer.ensures
    (c.keep.ensures ∙ ap (λ ws. ws ++ written c.receive-answer.new.outbox) c.in_ok-reserve.ensures.items) in
    (n, at, (store_of g.P.Log x, a.0, record { possible = taken-in d.taken.items c.args.number n at; made = h.0 }, h.1))

pub invariant_of-self-2-clause-own_seats : goal.invariant_of-self-2-clause-own_seats
invariant_of-self-2-clause-own_seats g c =
    let d = c.args.self.now in
    let x = c.in-Joined.store in
    let t = d.transaction in
    let s = c.args.seat.value in
    let i = c.from.ensures ∙ c.number.ensures in
    let a = sits g.P.Log t d.seats.items c.from.result s c.index_mut.result.now x d.own_seats d.full c.args.seat.small i c.index_mut.ensures.value c.in-Joined.is in
    own-acted t s c.from.result d.seats.items x c.receive-answer.new.self c.receive-answer.new.log d.own_seats i a.1 a.2 c.receive-answer.ensures.leaves.transaction c.receive-answer.ensures.leaves.seat
