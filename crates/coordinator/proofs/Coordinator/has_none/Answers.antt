use Rattle.std.proofs.Common.{rules, tests, ◌∙◌, not}
use Rattle.std.proofs.lemmas.Iterator.{YieldsList-from_slice}
use Rattle.std.proofs.lemmas.Iterator.Search.{all_from_yields_List}
use Rattle.coordinator.specs.Groups.{passes}
use Rattle.coordinator.proofs.TableFacts.{all_not}
use Rattle.coordinator.proofs.Coordinator.has_none.Goals as goal

pub returns : goal.returns
returns c =
    all_from_yields_List (λ p. not (passes c.args.group p)) _ _ _ c.all.ensures.ran (YieldsList-from_slice c.args.self.now.table cc) (λ x b q k. search (rules, tests))
    ∙ all_not (passes c.args.group) c.args.self.now.table
