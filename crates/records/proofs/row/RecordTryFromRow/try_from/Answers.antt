use Rattle.std.proofs.Common.{◌≡◌, sym, ap, ◌∙◌}
use Rattle.records.specs.Recs.{kind_of, seats_of, model_of}
use Rattle.records.specs.Rows.{row_means}
use Rattle.records.specs.declared.record.Entry.{Entry}
use Rattle.records.specs.declared.record.Record.{Record}
use Rattle.seats.proofs.ExactFacts.{exactly-some, exactly-has}
use Rattle.records.proofs.ValueFacts.{same-model, same-rec}
use Rattle.records.proofs.row.RecordTryFromRow.try_from.Goals as goal

pub returns : goal.returns
returns c =
    let w = row_means c.args.row in
    let r = c.new.result in
    let e = c.in-Some.entry in
    let is = exactly-has (λ (x : Entry). (w.kind ≡ kind_of x) × (c.from_bits.result.bits ≡ seats_of x)) e c.in-Some.ensures in
    let h : e ≡ r.entry = sym c.new.ensures.content in
    let t : w.transaction ≡ r.transaction = sym c.new.ensures.number in
    let k : w.kind ≡ kind_of r.entry = is.0 ∙ ap kind_of h in
    let s : w.seats ≡ seats_of r.entry = sym c.from_bits.ensures ∙ is.1 ∙ ap seats_of h in
    let m : w ≡ model_of r = same-rec w (model_of r) t k s in
    exactly-some (λ (x : Record). w ≡ model_of x) r m (λ x q. same-model r x (sym m ∙ q))
