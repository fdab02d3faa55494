use Rattle.std.proofs.Common.{◌≡◌, ◌∙◌, ℕ, length, ap, refl, arith}
use Rattle.agreement.specs.CoordinatorRules.{expire}
use Rattle.coordinator.specs.Calls.{coord_of, expired}
use Rattle.edges.proofs.Making.{made}
use Rattle.edges.specs.Stages.{beside, head_of}
use Rattle.edges.specs.declared.stage.Call.TheVariants.{Expire}
use Rattle.edges.proofs.stage.Stage.expire.Goals as goal

pub returns : goal.returns
returns c =
    let s = c.args.self.now in
    let room : length s.outbox ≡ 16 = omega arith in
    made Expire (beside (head_of s).log (expired s.coordinator (length s.outbox))) s _ c.view-before.result c.sent-answer.result _ c.shown.result (record {
      rule = ap (λ (r : ℕ). beside (head_of s).log (expire s.coordinator.transaction r (coord_of s.coordinator))) room ∙ ap (λ (t : ℕ). beside (head_of s).log (expire t 16 (coord_of s.coordinator))) s.own;
      settles = record { obeys = c.expire.ensures; safe = refl; loose = refl; capacity = refl };
      viewed = c.view-before.ensures.head;
      outbox = c.view-before.ensures.outbox;
      answered = c.sent-answer.ensures;
      shown_call = c.shown.ensures.call;
      shown_before = c.shown.ensures.before;
      shown_answer = c.shown.ensures.answer;
      shown_after = c.shown.ensures.after;
      shown_outbox = c.shown.ensures.outbox;
    })
