use Rattle.std.proofs.Common.{sym, ap, ◌∙◌, arith}
use Rattle.agreement.specs.Turns.{note}
use Rattle.words.specs.Notes.{row_of}
use Rattle.coordinator.proofs.GivingFacts.{laying_none, laying_one}
use Rattle.coordinator.proofs.Coordinator.give.Goals as goal
use Rattle.coordinator.proofs.Coordinator.give.Goals.{then-has, else-has}

pub loop-number-preserved : goal.loop-number-preserved
loop-number-preserved c = elim c.if-has.branch [
  | then-has w ↦
      rw (w.sent-is, w.outbox-is)
      (laying_one _ _ _ _ _ _ _ _ c.loop-number.invariant (omega arith) (sym c.has.ensures ∙ w.if-has.true) (omega arith) w.from.result
      (w.from.ensures ∙ ap (λ s. row_of (note c.args.self.now.transaction s c.args.kind)) w.seat_of.ensures))
  | else-has w ↦ rw (w.sent-is, w.outbox-is) (laying_none _ _ _ _ _ _ _ _ c.loop-number.invariant (omega arith) (sym c.has.ensures ∙ w.if-has.false))
]
