use Rattle.std.proofs.Common.{◌≡◌, ℕ, ◌+◌, ◌*◌, ◌<◌, ◌≤◌, ◌-◌, List, ◌++◌, length, take, drop, vec_len, sym, refl, ap, ◌∙◌, subst, arith}
use borrow.Rule.Slice.PartMut.{put_mid}
use Rattle.std.proofs.lemmas.Bool.{cond-true, lt-ltb}
use Rattle.std.proofs.lemmas.List.{take_at, length-append, length-take, length-drop}
use Rattle.records.proofs.RecordFacts.{length-bytes}
use Rattle.records.specs.Bytes.{bytes_of}
use Rattle.records.specs.Recs.{model_of}
use Rattle.journals.specs.Journals.{bytes_in, safe_in, loose_in, room_in}
use Rattle.journals.specs.Slots.{recs_in, BytesSound}
use Rattle.logs.specs.Tables.{safe_of, loose_of}
use Rattle.logs.proofs.LogFacts.{loose-on, answer-on}
use Rattle.journals.proofs.SlotFacts.{length-recs, written-sound, written-recs}
use Rattle.logs.proofs.TableFacts.{both, safe_of-add, loose_of-add}
use Rattle.journals.proofs.journal.logging.JournalLog.add.Goals as goal

-- a list keeps its length where 22 numbers are put in it
stored : (items b : List ℕ) (at : ℕ) → at + 22 ≤ length items → length b ≡ 22 → length (put_mid at 22 items b) ≡ length items
stored items b at h l = simp (length-append, length-take, length-drop) (omega arith)

filled : (items b d s : List ℕ) (at k len : ℕ) → d ≡ items → s ≡ b → k ≡ 22 → length items ≡ len → length b ≡ 22 → at + 22 ≤ len
    → take len (put_mid at k d s ++ drop (length (put_mid at k d s)) items) ≡ put_mid at 22 items b
filled items b d s at k len de se ke n m h =
    rw (de, se, ke) (take_at (put_mid at 22 items b) (drop (length (put_mid at 22 items b)) items) len (stored items b at (omega arith) m ∙ n))

pub invariant_of-self : goal.invariant_of-self
invariant_of-self c =
    let j = c.args.self.now in
    let r = c.args.record in
    let bs = bytes_in j in
    let v = j.bytes.ok.0 in
    let at = 22 * j.used in
    let fits : at + 22 ≤ length bs = omega (arith, c.capacity-capacity.ensures) in
    let is = filled bs (bytes_of r) c.deref_mut.result.now c.copy_from_slice.new.self at (at + 22 - at) (vec_len j.bytes)
    c.deref_mut.ensures.value (c.copy_from_slice.ensures.after ∙ c.encode.ensures) (omega arith) (sym v) (length-bytes r) (omega arith) in
    record { order = omega arith; fits = omega arith; sound = subst (λ (x : List ℕ). BytesSound x (j.used + 1)) (sym is) (written-sound bs j.used r fits j.sound) }

pub returns : goal.returns
returns c =
    let j = c.args.self.now in
    let r = c.args.record in
    let m = model_of r in
    let bs = bytes_in j in
    let rs = recs_in bs in
    let room = room_in j in
    let v = j.bytes.ok.0 in
    let n = length-recs bs in
    let at = 22 * j.used in
    let new = put_mid at 22 bs (bytes_of r) in
    let fits : at + 22 ≤ length bs = omega (arith, c.capacity-capacity.ensures) in
    let is = filled bs (bytes_of r) c.deref_mut.result.now c.copy_from_slice.new.self at (at + 22 - at) (vec_len j.bytes)
    c.deref_mut.ensures.value (c.copy_from_slice.ensures.after ∙ c.encode.ensures) (omega arith) (sym v) (length-bytes r) (omega arith) in
    let grown = written-recs bs j.used r fits in
    let e : length (safe_in j) + length (loose_in j) ≡ j.used = both j.secured j.used rs (omega arith) in
    let on : length (safe_in j) + length (loose_in j) < room = omega (arith, c.capacity-capacity.ensures) in
    record {
      capacity = refl;
      safe = ap (λ (x : List ℕ). safe_of j.secured (j.used + 1) (recs_in x)) is ∙ safe_of-add j.secured j.used rs (recs_in new) m grown (omega arith) (omega arith);
      loose = ap (λ (x : List ℕ). loose_of j.secured (j.used + 1) (recs_in x)) is ∙ loose_of-add j.secured j.used rs (recs_in new) m grown (omega arith) (omega arith) ∙ loose-on room (safe_in j) (loose_in j) m on;
      answer = answer-on room (safe_in j) (loose_in j) on;
      bytes = is ∙ ap (λ (x : ℕ). put_mid (22 * x) 22 bs (bytes_of r)) (sym e) ∙ sym (cond-true _ _ _ (lt-ltb _ _ on));
    }
