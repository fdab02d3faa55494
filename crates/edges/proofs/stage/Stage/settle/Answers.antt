use Rattle.std.proofs.Common.{◌≡◌, ◌∙◌, ℕ, length, ap, arith}
use Rattle.agreement.specs.CoordinatorRules.{settle}
use Rattle.coordinator.specs.Calls.{coord_of, settled}
use Rattle.edges.proofs.Making.{made}
use Rattle.edges.specs.Stages.{head_of}
use Rattle.edges.specs.declared.stage.Call.TheVariants.{Settle}
use Rattle.edges.proofs.stage.Stage.settle.Goals as goal

pub returns : goal.returns
returns c =
    let s = c.args.self.now in
    let room : length s.outbox ≡ 16 = omega arith in
    made Settle (settled s.coordinator (length s.outbox) (head_of s).log) s _ c.view-before.result c.sent-answer.result _ c.shown.result (record {
      rule = ap (λ (r : ℕ). settle s.coordinator.transaction r (coord_of s.coordinator) (head_of s).log) room ∙ ap (λ (t : ℕ). settle t 16 (coord_of s.coordinator) (head_of s).log) s.own;
      settles = c.settle.ensures;
      viewed = c.view-before.ensures.head;
      outbox = c.view-before.ensures.outbox;
      answered = c.sent-answer.ensures;
      shown_call = c.shown.ensures.call;
      shown_before = c.shown.ensures.before;
      shown_answer = c.shown.ensures.answer;
      shown_after = c.shown.ensures.after;
      shown_outbox = c.shown.ensures.outbox;
    })
