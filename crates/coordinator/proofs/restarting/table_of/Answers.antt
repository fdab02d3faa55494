use Rattle.std.proofs.Common.{◌≡◌, true, false, sym, ◌∙◌, inl, inr, refl, arith}
use Rattle.agreement.specs.CoordinatorRules.{seated_if}
use Rattle.coordinator.proofs.TableFacts.{filled_more}
use Rattle.seats.specs.Sets.{member}
use Rattle.coordinator.proofs.restarting.table_of.Goals as goal
use Rattle.coordinator.proofs.restarting.table_of.Goals.{then-has_number, else-has_number}

pub loop-number-preserved : goal.loop-number-preserved
loop-number-preserved c =
    let bits = c.args.seats.bits in
    let i = c.loop-number.number in
    filled_more (λ s. seated_if (member bits s)) 16 i c.loop-number.table c.if-has_number.table (omega arith) c.loop-number.invariant (
    elim c.if-has_number.branch [
      | then-has_number w ↦ let e : member bits i ≡ true = sym c.has_number.ensures ∙ w.if-has_number.true in let f = w.from.ensures in inl (rw (e, ← f) w.table-is)
      | else-has_number w ↦ let e : member bits i ≡ false = sym c.has_number.ensures ∙ w.if-has_number.false in inr (w.table-is, rw e refl)
    ]
    )
