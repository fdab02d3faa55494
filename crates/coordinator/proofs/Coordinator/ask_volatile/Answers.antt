use Rattle.std.proofs.Common.{refl, arith}
use Rattle.coordinator.proofs.AskingFacts.{obeys_asked}
use Rattle.coordinator.proofs.Coordinator.ask_volatile.Goals as goal

pub returns-then-asked-gt0 : goal.returns-then-asked-gt0
returns-then-asked-gt0 c =
    obeys_asked c.args.self.now _ _ _ _ (omega (arith, c.give-asked.ensures.count))
    (record {
      leaves = record { transaction = c.ask.ensures.transaction; state = refl; table = c.ask.ensures.table; reply = cc };
      rows = c.give-asked.ensures.rows;
    })
