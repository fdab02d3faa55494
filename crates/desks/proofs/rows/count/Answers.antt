use Rattle.std.proofs.Common.{ap, ◌∙◌, rules, tests, unwrap_or, length}
use Rattle.std.proofs.lemmas.Iterator.{YieldsList-from_slice}
use Rattle.std.proofs.lemmas.Iterator.Search.{position_from_yields_List}
use Rattle.desks.specs.Rows.{is_blank}
use Rattle.desks.proofs.rows.count.Goals as goal

pub returns-clause-place : goal.returns-clause-place
returns-clause-place c =
    c.unwrap_or.ensures
    ∙ ap (λ o. unwrap_or o (length c.args.outbox.now)) (
    position_from_yields_List is_blank _ _ _ c.position.ensures.ran (YieldsList-from_slice c.args.outbox.now (cc)) (λ x r q k. search (rules, tests))
    )
