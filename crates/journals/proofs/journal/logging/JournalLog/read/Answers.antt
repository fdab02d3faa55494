use Rattle.std.proofs.Common.{◌≡◌, ℕ, List, Some, sym, ap, ◌∙◌, subst, arith}
use Rattle.records.proofs.RecordFacts.{rec_of_lem}
use Rattle.records.specs.Bytes.{bytes_of, rec_of}
use Rattle.seats.specs.Exactly.{Exactly}
use Rattle.records.specs.declared.record.Record.{Record}
use Rattle.journals.specs.Journals.{bytes_in}
use Rattle.journals.specs.Slots.{slot, rec_at, recs_in}
use Rattle.logs.proofs.LogFacts.{reads}
use Rattle.journals.proofs.SlotFacts.{length-recs, recs-at}
use Rattle.logs.proofs.TableFacts.{read-in}
use Rattle.journals.proofs.journal.logging.JournalLog.read.Goals as goal

pub returns : goal.returns
returns c =
    let j = c.args.self.now in
    let bs = bytes_in j in
    let i = c.args.i in
    let v = j.bytes.ok.0 in
    let n = length-recs bs in
    let o = c.record_at.result in
    let exact : Exactly (λ (r : Record). slot bs i ≡ bytes_of r) o =
    subst (λ (x : List ℕ). Exactly (λ (r : Record). slot x i ≡ bytes_of r) o) c.deref.ensures.value c.record_at.ensures in
    reads (λ (r : Record). slot bs i ≡ bytes_of r) (rec_at bs i) o exact (λ r e. sym (ap rec_of e ∙ rec_of_lem r)) (j.sound i c.if-i-self.false)
    ∙ ap Some (sym (recs-at bs i (rec_at bs i) (omega arith))) ∙ read-in j.secured j.used (recs_in bs) i (rec_at bs i) (omega arith) (omega arith)
