use Rattle.journals.proofs.SlotFacts.{none-malformed}
use Rattle.journals.proofs.journal.slots.is_malformed.Goals as goal

pub returns : goal.returns
returns c = none-malformed c.args.bytes.now c.args.i c.record_at.result c.is_none.result c.record_at.ensures c.is_none.ensures
