use Rattle.std.proofs.Common.{◌≡◌, ◌<◌, List, map, length, get_or, Some, Option, sym, ap, ◌∙◌, subst, arith}
use lib.ListN.{length-map}
use Rattle.std.proofs.lemmas.List.{get_or-map}
use Rattle.arrayvec.specs.ArrayVec.{array_vec_len}
use Rattle.seats.specs.Exactly.{Exactly}
use Rattle.records.specs.Recs.{model_of}
use Rattle.records.specs.Rows.{row_means}
use Rattle.records.specs.declared.record.Record.{Record}
use Rattle.records.specs.declared.row.Row.{Row}
use Rattle.logs.specs.Rows.{blank_row}
use Rattle.logs.proofs.LogFacts.{reads}
use Rattle.logs.proofs.TableFacts.{read-in}
use Rattle.logs.proofs.tray.logging.TrayLog.read.Goals as goal

pub returns : goal.returns
returns c =
    let t = c.args.self.now in
    let i = c.args.i in
    let n = array_vec_len t.rows in
    let rs = map row_means t.rows.items in
    let row = get_or t.rows.items i blank_row in
    let e = ap (λ (xs : List Row). length xs) c.deref.ensures.0 in
    let h = c.in_ok-get.ensures.lookup in
    let l : i < length t.rows.items = let k = h.3.0 in omega arith in
    let is : c.in_ok-get.field-0.now ≡ row = h.3.1 blank_row ∙ ap (λ (xs : List Row). get_or xs i blank_row) c.deref.ensures.0 in
    let at : get_or rs i (row_means blank_row) ≡ row_means row = get_or-map row_means t.rows.items i blank_row (row_means blank_row) l in
    let exact = subst (λ (w : Row). Exactly (λ (r : Record). row_means w ≡ model_of r) c.ok.result) is (subst (λ (o : Option Record). Exactly (λ (r : Record). row_means c.in_ok-get.field-0.now ≡ model_of r) o) (sym c.ok.ensures.value) c.try_from.ensures) in
    reads (λ (r : Record). row_means row ≡ model_of r) (row_means row) c.ok.result exact (λ r e. sym e) (t.sound i l)
    ∙ ap Some (sym at) ∙ read-in t.secured n rs i (row_means blank_row) l (simp length-map (omega arith))
