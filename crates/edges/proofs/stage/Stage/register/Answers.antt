use Rattle.std.proofs.Common.{◌≡◌, ◌∙◌, ℕ, length, ap, refl, arith}
use Rattle.agreement.specs.CoordinatorRules.{register}
use Rattle.coordinator.specs.Calls.{coord_of, registered}
use Rattle.edges.proofs.Making.{made}
use Rattle.edges.specs.Stages.{beside, head_of}
use Rattle.edges.specs.declared.stage.Call.TheVariants.{Register}
use Rattle.edges.proofs.stage.Stage.register.Goals as goal

pub returns : goal.returns
returns c =
    let s = c.args.self.now in
    let room : length s.outbox ≡ 16 = omega arith in
    made (Register c.args.durability) (beside (head_of s).log (registered s.coordinator (length s.outbox) c.args.durability)) s _ c.view-before.result c.seated-answer.result _ c.shown.result (record {
      rule = ap (λ (r : ℕ). beside (head_of s).log (register s.coordinator.transaction r c.args.durability (coord_of s.coordinator))) room ∙ ap (λ (t : ℕ). beside (head_of s).log (register t 16 c.args.durability (coord_of s.coordinator))) s.own;
      settles = record { obeys = c.register.ensures; safe = refl; loose = refl; capacity = refl };
      viewed = c.view-before.ensures.head;
      outbox = c.view-before.ensures.outbox;
      answered = c.seated-answer.ensures;
      shown_call = c.shown.ensures.call;
      shown_before = c.shown.ensures.before;
      shown_answer = c.shown.ensures.answer;
      shown_after = c.shown.ensures.after;
      shown_outbox = c.shown.ensures.outbox;
    })
