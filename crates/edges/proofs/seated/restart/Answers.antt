use Rattle.std.proofs.Common.{◌≡◌, ℕ, List, None, get_or, subst, ap, refl}
use Rattle.agreement.specs.CoordinatorRules.{Head}
use Rattle.agreement.specs.Names.{Place}
use Rattle.agreement.specs.declared.coordinator.State.TheVariants.{Committing}
use Rattle.edges.proofs.Playing.{sent_case}
use Rattle.edges.specs.Expected.{decided}
use Rattle.edges.specs.Stages.{Shows, played}
use Rattle.edges.specs.declared.stage.Call.TheVariants.{Restart}
use Rattle.seats.specs.Sets.{bits_of}
use Rattle.edges.proofs.seated.restart.Goals as goal

here : (c : goal.After-restart) → c.args.n ≡ 1 → Shows (Restart 1) (played decided) c.restart.result
here c one =
    let shown = c.restart.result in
    let there = subst (λ (h : Head). Shows (Restart c.args.n) h shown) c.decided.ensures.head c.restart.ensures in
    subst (λ (n : ℕ). Shows (Restart n) (played decided) shown) one there

pub returns-clause-kept : goal.returns-clause-kept
unfolding bits_of
returns-clause-kept c one = sent_case 0 Committing (here c one) refl refl

pub returns-clause-kept_seat : goal.returns-clause-kept_seat
unfolding bits_of
returns-clause-kept_seat c one =
    let after = (here c one).after in
    record { seat = ap (λ (ps : List Place). get_or ps 0 None) after.table; safe = after.safe; loose = after.loose }
