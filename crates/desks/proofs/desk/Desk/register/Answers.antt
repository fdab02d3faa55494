use Rattle.std.proofs.Common.{◌≡◌, ℕ, ◌++◌, map, refl, ap, ap₂, ◌∙◌, sym, subst, slice_set}
use lib.Seq.{map-set}
use Rattle.agreement.specs.CoordinatorRules as C
use Rattle.agreement.specs.Turns.{seated}
use Rattle.agreement.specs.World.{new_party}
use Rattle.coordinator.specs.Calls.{coord_of}
use Rattle.desks.specs.Own.{SeatsOwn}
use Rattle.desks.specs.Rows.{written}
use Rattle.desks.specs.Worlds.{world_of, party_of}
use Rattle.desks.proofs.WorldFacts.{registers-does, newcomer-is, own-newcomer}
use Rattle.desks.proofs.desk.Desk.register.Goals as goal

pub invariant_of-self-in-Ok-clause-own_seats : goal.invariant_of-self-in-Ok-clause-own_seats
invariant_of-self-in-Ok-clause-own_seats g c =
    let d = c.args.self.now in
    subst (λ p. SeatsOwn d.transaction (slice_set d.seats.items c.from.result p)) (sym c.newcomer.ensures) (own-newcomer d.transaction c.from.result d.seats.items c.args.durability d.own_seats)

pub returns-in-Ok-clause-step : goal.returns-in-Ok-clause-step
returns-in-Ok-clause-step g c =
    let d = c.args.self.now in
    let dur = c.args.durability in
    let x = c.in-Ok.registered in
    let seat : c.from.result ≡ x.seat.value = c.from.ensures ∙ c.number.ensures in
    let sits : party_of g.P.Log c.newcomer.result ≡ new_party dur = ap (λ p. party_of g.P.Log p) c.newcomer.ensures ∙ newcomer-is g.P.Log dur in
    let ps = map (party_of g.P.Log) d.seats.items in
    let q = map-set (party_of g.P.Log) d.seats.items c.from.result c.newcomer.result ∙ ap₂ (λ (i : ℕ) p. slice_set ps i p) seat sits in
    let h = registers-does (λ (u : ℕ). C.register u 16 dur (coord_of d.coordinator)) dur d.transaction 16 (world_of g.C.Log g.P.Log g.N.Line d) d.coordinator c.register-answer.new.self
    d.given.items c.keep.new.given.items c.register-answer.new.outbox (seated x.seat.value x.sent) (map (party_of g.P.Log) (slice_set d.seats.items c.from.result c.newcomer.result)) d.number refl c.in-Ok.ensures
    (c.keep.ensures ∙ ap (λ ws. ws ++ written c.register-answer.new.outbox) c.in_ok-reserve.ensures.items) q in
    (record { possible = _; made = h.0 }, h.1)
