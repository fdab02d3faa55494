use Rattle.std.proofs.Common.{◌≡◌, ℕ, [], ◌∷◌, ◌++◌, reverse, refl, ap, ◌∙◌, sym, subst, replicate}
use Rattle.std.proofs.lemmas.List.{reverse-append}
use Rattle.agreement.specs.CoordinatorRules as C
use Rattle.agreement.specs.Logs.{log_of}
use Rattle.agreement.specs.Turns.{tells}
use Rattle.agreement.specs.World.{apart}
use Rattle.coordinator.specs.Calls.{coord_of, Obeys}
use Rattle.desks.specs.Rows.{written}
use Rattle.desks.specs.Worlds.{world_of}
use Rattle.desks.proofs.WorldFacts.{asks-does, apart-does, blank}
use Rattle.desks.proofs.desk.Desk.ask_commit.Goals as goal

pub returns-clause-step : goal.returns-clause-step
returns-clause-step g c =
    let d = c.args.self.now in
    let l = log_of g.C.Log d.log in
    let t = d.transaction in
    let x = c.in-Ok.told.outcome in
    let r : c.in-Some.right.transaction ≡ d.coordinator.transaction = d.own_right c.in-Some.right (sym c.take.ensures.value ∙ c.in-Some.is) ∙ sym d.number in
    let turn = subst (λ (u : ℕ). Obeys (C.ask_commit d.coordinator.transaction 16 u (coord_of d.coordinator)) d.coordinator c.ask_commit.new.self (replicate 16 blank) c.ask_commit.new.outbox (tells x c.in-Ok.told.sent)) r c.in-Ok.ensures.turn in
    let h = asks-does (λ (u : ℕ). apart l (C.ask_commit u 16 u (coord_of d.coordinator))) t 16 (world_of g.C.Log g.P.Log g.N.Line d) d.coordinator c.ask_commit.new.self l
    d.given.items c.keep.new.given.items c.ask_commit.new.outbox x c.in-Ok.told.sent (reverse c.push.new.self.items) d.number refl (apart-does _ _ _ l _ _ _ turn)
    (c.keep.ensures ∙ ap (λ ws. ws ++ written c.ask_commit.new.outbox) c.in_ok-reserve.ensures.items)
    (ap reverse (c.in_ok-push.ensures.items ∙ ap (λ os. os ++ x ∷ []) c.in_ok-reserve-2.ensures.items) ∙ reverse-append d.told.items (x ∷ [])) in
    (record { possible = _; made = h.0 }, h.1)
