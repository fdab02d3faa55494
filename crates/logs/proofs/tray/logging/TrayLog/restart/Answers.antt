use Rattle.std.proofs.Common.{◌≡◌, ℕ, ◌+◌, ◌<◌, List, min, ◌++◌, map, length, get_or, take, sym, ap, ◌∙◌, subst, arith}
use lib.ListN.{length-map}
use Rattle.arrayvec.specs.ArrayVec.{array_vec_len}
use Rattle.std.proofs.lemmas.List.{take-map, get_or-take}
use Rattle.records.specs.Rows.{row_means}
use Rattle.logs.specs.Rows.{AlienRow, blank_row}
use Rattle.logs.specs.Tables.{safe_of, loose_of}
use Rattle.logs.proofs.TableFacts.{safe_of-part, safe_of-kept, loose_of-length}
use Rattle.logs.proofs.tray.logging.TrayLog.restart.Goals as goal

pub invariant_of-self : goal.invariant_of-self
invariant_of-self c =
    let t = c.args.self.now in
    let m = c.min-survivors.ensures in
    let n = c.len.ensures.value in
    let l = c.truncate.ensures.len in
    let j = t.secured + c.min-survivors.result in
    record {
      order = omega arith;
      fits = omega arith;
      sound = λ i h.
          let b : i < j = omega arith in
          let e = ap (λ (xs : List _). get_or xs i blank_row) c.truncate.ensures.items ∙ get_or-take j t.rows.items i blank_row b in
          subst (λ x. AlienRow x → ⊥) (sym e) (t.sound i (omega arith));
    }

pub returns-clause-safe : goal.returns-clause-safe
returns-clause-safe c =
    let t = c.args.self.now in
    let rs = map row_means t.rows.items in
    let ys = map row_means c.truncate.new.self.items in
    let n = array_vec_len t.rows in
    let k = c.min-survivors.result in
    let m = c.min-survivors.ensures in
    let v = c.len.ensures.value in
    let j = t.secured + k in
    let lo = loose_of t.secured n rs in
    let e = loose_of-length t.secured n rs (simp length-map (omega arith)) in
    let same : k ≡ min (length lo) c.args.n = omega arith in
    let len : array_vec_len c.truncate.new.self ≡ j = omega (arith, c.truncate.ensures.len) in
    let cut : ys ≡ take j rs = ap (map row_means) c.truncate.ensures.items ∙ sym (take-map row_means j t.rows.items) in
    ap (λ (b : ℕ). safe_of j b ys) len ∙ ap (safe_of j j) cut ∙ safe_of-kept j rs ∙ safe_of-part t.secured n k rs (omega arith) ∙ ap (λ (i : ℕ). safe_of t.secured n rs ++ take i lo) same
