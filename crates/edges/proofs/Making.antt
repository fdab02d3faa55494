-- A call that keeps to its turn makes what is shown of it.
use Rattle.std.proofs.Common.{◌≡◌, rules}
use Rattle.agreement.specs.CoordinatorRules.{HeadTurn}
use Rattle.agreement.specs.Turns.{Reply}
use Rattle.agreement.specs.declared.coordinator.State.{State}
use Rattle.coordinator.specs.Calls.{Settles}
use Rattle.edges.specs.Stages.{Makes, Views, turn_of, head_of, reply_in}
use Rattle.edges.specs.declared.stage.Answer.{Answer}
use Rattle.edges.specs.declared.stage.Call.{Call}
use Rattle.edges.specs.declared.stage.Shown.{Shown}
use Rattle.edges.specs.declared.stage.Stage.{Stage}
use Rattle.edges.specs.declared.stage.View.{View}

-- what is known of the call and of what is shown
pub record Kept (call : Call) (turn : HeadTurn) (s d : Stage) (view : View) (answer : Answer) (said : Reply State) (shown : Shown) : Type 0 where
  pub rule : turn ≡ turn_of call (head_of s)
  pub settles : Settles turn s.coordinator d.coordinator (head_of d).log s.outbox d.outbox said
  pub viewed : Views (head_of s) view
  pub outbox : view.outbox ≡ s.outbox
  pub answered : reply_in answer ≡ said
  pub shown_call : shown.call ≡ call
  pub shown_before : shown.before ≡ view
  pub shown_answer : shown.answer ≡ answer
  pub shown_after : Views (head_of d) shown.after
  pub shown_outbox : shown.after.outbox ≡ d.outbox

pub made : (call : Call) (turn : HeadTurn) (s d : Stage) (view : View) (answer : Answer) (said : Reply State) (shown : Shown)
    → Kept call turn s d view answer said shown → Makes call s d shown
made call turn s d view answer said shown k = search rules
