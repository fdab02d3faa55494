use Rattle.std.proofs.Common.{◌≡◌, ◌/◌, ◌≤◌, length, sym, subst, arith}
use Rattle.records.specs.Bytes.{bytes_of}
use Rattle.records.specs.declared.record.Record.{Record}
use Rattle.seats.proofs.ExactFacts.{exactly-none}
use Rattle.seats.specs.Exactly.{Exactly}
use Rattle.journals.specs.Slots.{slot}
use Rattle.journals.proofs.SlotFacts.{short}
use Rattle.journals.proofs.journal.slots.record_at.Goals as goal

pub returns-in_err-get : goal.returns-in_err-get
returns-in_err-get c =
    let bs = c.args.bytes.now in
    let i = c.args.i in
    let P = λ (r : Record). slot bs i ≡ bytes_of r in
    let past : length bs / 22 ≤ i = let h = c.in_err-get.ensures.lookup.3 in omega (arith, c.as_chunks.ensures.front_len) in
    subst (Exactly P) (sym c.from_residual.ensures) (exactly-none P (short bs i past))
