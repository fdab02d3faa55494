use Rattle.std.proofs.Common.{◌≡◌, ℕ, ◌+◌, ◌≤◌, List, [], ◌∷◌, ◌++◌, map, length, get_or, take, sym, refl, ap, ◌∙◌, subst, arith, below_more}
use lib.ListN.{length-map}
use Rattle.std.proofs.lemmas.Bool.{eqb-false}
use Rattle.std.proofs.lemmas.List.{map_push, get_or_push, get_or_append_left}
use Rattle.arrayvec.specs.ArrayVec.{array_vec_len}
use Rattle.records.specs.Recs.{Rec, model_of}
use Rattle.records.specs.Rows.{row_means}
use Rattle.records.specs.declared.record.Record.{Record}
use Rattle.records.specs.declared.row.Row.{Row}
use Rattle.logs.specs.Rows.{AlienRow, RowsSound, blank_row}
use Rattle.logs.specs.Tables.{safe_of, loose_of}
use Rattle.logs.proofs.LogFacts.{loose-on}
use Rattle.logs.proofs.TableFacts.{both, grown, safe_of-add, loose_of-add}
use Rattle.logs.proofs.tray.logging.TrayLog.add.Goals as goal

-- a record's row behind the others
more : (rows : List Row) (w : Row) (r : Record) → row_means w ≡ model_of r → RowsSound (length rows) rows → RowsSound (length rows + 1) (rows ++ w ∷ [])
more rows w r is h =
    below_more (λ i. AlienRow (get_or (rows ++ w ∷ []) i blank_row) → ⊥) (length rows)
    (λ i b. subst (λ (x : Row). AlienRow x → ⊥) (sym (get_or_append_left rows (w ∷ []) blank_row i b)) (h i b))
    (subst (λ (x : Row). AlienRow x → ⊥) (sym (get_or_push rows w blank_row (length rows) refl)) (λ alien. alien r is))

-- the table with it
longer : (rows new : List Row) (w : Row) (m : Rec) → new ≡ rows ++ w ∷ [] → row_means w ≡ m → take (length rows + 1) (map row_means new) ≡ take (length rows) (map row_means rows) ++ m ∷ []
longer rows new w m e is =
    let put : map row_means new ≡ map row_means rows ++ m ∷ [] = ap (map row_means) e ∙ map_push row_means rows w ∙ ap (λ (x : Rec). map row_means rows ++ x ∷ []) is in
    ap (take (length rows + 1)) put ∙ grown (length rows) (map row_means rows) m (simp length-map refl)

pub invariant_of-self : goal.invariant_of-self
invariant_of-self c =
    let t = c.args.self.now in
    let f = eqb-false (array_vec_len t.rows) 32 (sym c.is_full.ensures.value ∙ c.if-is_full.false) in
    let l = c.push.ensures.len in
    let e = c.push.ensures.items in
    let s : RowsSound (array_vec_len t.rows + 1) (t.rows.items ++ c.from.result ∷ []) = more t.rows.items c.from.result c.args.record c.from.ensures t.sound in
    record { order = omega arith; fits = omega arith; sound = λ i h. subst (λ (xs : List Row). AlienRow (get_or xs i blank_row) → ⊥) (sym e) (s i (omega arith)) }

pub returns-clause-safe : goal.returns-clause-safe
returns-clause-safe c =
    let t = c.args.self.now in
    let n = array_vec_len t.rows in
    let rs = map row_means t.rows.items in
    let ys = map row_means c.push.new.self.items in
    let m = model_of c.args.record in
    let more = longer t.rows.items c.push.new.self.items c.from.result m c.push.ensures.items c.from.ensures in
    ap (λ (b : ℕ). safe_of t.secured b ys) c.push.ensures.len ∙ safe_of-add t.secured n rs ys m more (omega arith) (simp length-map (omega arith))

pub returns-clause-loose : goal.returns-clause-loose
returns-clause-loose c =
    let t = c.args.self.now in
    let n = array_vec_len t.rows in
    let rs = map row_means t.rows.items in
    let ys = map row_means c.push.new.self.items in
    let m = model_of c.args.record in
    let f = eqb-false n 32 (sym c.is_full.ensures.value ∙ c.if-is_full.false) in
    let room : n ≤ length rs = simp length-map (omega arith) in
    let e = both t.secured n rs room in
    let more = longer t.rows.items c.push.new.self.items c.from.result m c.push.ensures.items c.from.ensures in
    ap (λ (b : ℕ). loose_of t.secured b ys) c.push.ensures.len
    ∙ loose_of-add t.secured n rs ys m more (omega arith) room
    ∙ loose-on 32 (safe_of t.secured n rs) (loose_of t.secured n rs) m (omega arith)
