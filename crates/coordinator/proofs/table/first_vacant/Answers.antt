use Rattle.std.proofs.Common.{rules, tests, ◌∙◌}
use Rattle.std.proofs.lemmas.Iterator.{YieldsList-from_slice}
use Rattle.std.proofs.lemmas.Iterator.Adapters.{position_from-zero}
use Rattle.std.proofs.lemmas.Iterator.Search.{position_from_yields_List}
use Rattle.std.specs.Option.{is_none}
use Rattle.coordinator.proofs.TableFacts.{first_none}
use Rattle.coordinator.proofs.table.first_vacant.Goals as goal

pub returns-clause-at : goal.returns-clause-at
returns-clause-at c =
    position_from_yields_List is_none _ _ _ c.position.ensures.ran (YieldsList-from_slice c.args.table.now cc) (λ x b q k. search (rules, tests))
    ∙ position_from-zero is_none c.args.table.now ∙ first_none 0 c.args.table.now
