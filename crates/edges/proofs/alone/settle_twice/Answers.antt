use Rattle.std.proofs.Common.{[], ◌∷◌, refl}
use Rattle.agreement.specs.declared.coordinator.State.TheVariants.{Noted, Done}
use Rattle.edges.proofs.Playing.{onward, there, sent_case}
use Rattle.edges.specs.Stages.{Stands}
use Rattle.edges.specs.declared.stage.Call.TheVariants.{AskCommit}
use Rattle.edges.proofs.alone.settle_twice.Goals as goal

pub returns-clause-settled : goal.returns-clause-settled
returns-clause-settled c =
    let stands : Stands (AskCommit ∷ []) _ = record { head = c.asked-stage.ensures.head } in
    sent_case 0 Noted (there stands c.settle-settled.ensures) refl refl

pub returns-clause-again : goal.returns-clause-again
returns-clause-again c =
    let stands : Stands (AskCommit ∷ []) _ = record { head = c.asked-stage.ensures.head } in
    sent_case 0 Done (there (onward stands c.settle-settled.ensures) c.settle-settled_again.ensures) refl refl
