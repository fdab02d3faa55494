-- The slots of a journal's buffer, and a record written to the next one.
use Rattle.std.proofs.Common.{◌≡◌, ℕ, zero, suc, ◌+◌, ◌-◌, ◌*◌, ◌/◌, ◌<◌, ◌≤◌, Bool, true, false, not, List, [], ◌∷◌, ◌++◌, map, length, get_or, take, drop, is_some, Some, None, Option, sym, refl, ap, ◌∙◌, ap₂, ⊎_elim, arith, below_more}
use borrow.Rule.Slice.PartMut.{put_mid}
use Rattle.std.proofs.lemmas.Bool.{true≢false, cases_lt}
use Rattle.std.proofs.lemmas.List.FromFn.{length-map-range_with_len, map-range_with_len_more, get_or-map-range_with_len, take-map-range_with_len}
use Rattle.std.proofs.lemmas.List.{drop-drop, drop-take, length-append, length-take, length-drop}
use Rattle.std.proofs.lemmas.Slice.{between-put_mid, take-put_mid_below}
use Rattle.std.specs.Bool.{Decides}
use Rattle.std.specs.List.{range_with_len}
use Rattle.std.specs.Simd.{first_chunks}
use Rattle.seats.proofs.ExactFacts.{exactly-has, exactly-never}
use Rattle.seats.specs.Exactly.{Exactly}
use Rattle.records.proofs.RecordFacts.{rec_of_lem, length-bytes}
use Rattle.records.specs.Bytes.{bytes_of, rec_of}
use Rattle.records.specs.Recs.{Rec, model_of}
use Rattle.records.specs.declared.record.Record.{Record}
use Rattle.logs.proofs.TableFacts.{tables}
use Rattle.journals.specs.Slots.{slot, rec_at, recs_in, MalformedAt, BytesSound}

pub length-recs : (bs : List ℕ) → length (recs_in bs) ≡ length bs / 22
length-recs bs = length-map-range_with_len (rec_at bs) 0 (length bs / 22)

pub recs-at : (bs : List ℕ) (i : ℕ) (d : Rec) → i < length bs / 22 → get_or (recs_in bs) i d ≡ rec_at bs i
recs-at bs i d h = get_or-map-range_with_len (rec_at bs) 0 (length bs / 22) i i d h (omega arith)

-- the chunks of a buffer are its slots
pub chunk_at : (bs : List ℕ) (k i : ℕ) (d : List ℕ) → i < k → get_or (first_chunks 22 k bs) i d ≡ slot bs i
chunk_at bs zero i d h = let no : ⊥ = omega arith in absurd no
chunk_at bs (suc k) zero d h = refl
chunk_at bs (suc k) (suc i) d h =
    let e : 22 + 22 * i ≡ 22 * suc i = omega arith in chunk_at (drop 22 bs) k i d (omega arith) ∙ ap (take 22) (drop-drop (22 * i) 22 bs ∙ ap (λ (n : ℕ). drop n bs) e)

-- a slot that leaves the buffer is no record's
pub short : (bs : List ℕ) (i : ℕ) → length bs / 22 ≤ i → MalformedAt bs i
short bs i h r e =
    let n = length-bytes r in
    let m : length (slot bs i) ≡ 22 = ap length e ∙ n in
    let q = simp (length-take, length-drop) at m in
    omega arith

pub sound_more : (bs : List ℕ) (n : ℕ) (r : Record) → BytesSound bs n → slot bs n ≡ bytes_of r → BytesSound bs (n + 1)
sound_more bs n r h e = below_more (λ i. MalformedAt bs i → ⊥) n h (λ malformed. malformed r e)

-- a record is malformed exactly where none is read
pub none-malformed : (bs : List ℕ) (i : ℕ) (o : Option Record) (none : Bool) → Exactly (λ (r : Record). slot bs i ≡ bytes_of r) o → is_some o ≡ not none → Decides none (MalformedAt bs i)
none-malformed bs i (Some r) true exact e = absurd (true≢false e)
none-malformed bs i (Some r) false exact e = (λ none. absurd (true≢false (sym none)), λ malformed. absurd (malformed r (exactly-has (λ (x : Record). slot bs i ≡ bytes_of x) r exact)))
none-malformed bs i None true exact e = (λ _. exactly-never (λ (x : Record). slot bs i ≡ bytes_of x) exact, λ _. refl)
none-malformed bs i None false exact e = absurd (true≢false (sym e))

-- where none of the first n records is malformed, all of them lie in the buffer
pub whole : (bs : List ℕ) (n : ℕ) → BytesSound bs n → 22 * n ≤ length bs
whole bs zero h = omega arith
whole bs (suc n) h =
    ⊎_elim (λ (l : n < length bs / 22). let s : 22 * suc n ≤ length bs = omega arith in s) (λ (l : length bs / 22 ≤ n). absurd (h n (omega arith) (short bs n l))) (cases_lt n (length bs / 22))

-- the same slots say the same
same-recs : (bs cs : List ℕ) (a n : ℕ) → ((i : ℕ) → i < a + n → slot bs i ≡ slot cs i) → map (rec_at bs) (range_with_len a n) ≡ map (rec_at cs) (range_with_len a n)
same-recs bs cs a zero e = refl
same-recs bs cs a (suc n) e = ap₂ (λ (x : Rec) (xs : List Rec). x ∷ xs) (ap rec_of (e a (omega arith))) (same-recs bs cs (a + 1) n (λ i l. e i (omega arith)))

-- a record's bytes written to slot n
module _ (old : List ℕ) (n : ℕ) (r : Record) (fits : 22 * n + 22 ≤ length old) where
  new : List ℕ
  new = put_mid (22 * n) 22 old (bytes_of r)

  pub length-written : length (put_mid (22 * n) 22 old (bytes_of r)) ≡ length old
  length-written = let l = length-bytes r in simp (length-append, length-take, length-drop) (omega arith)

  -- the slots before it are as they were
  before : (i : ℕ) → i < n → slot (put_mid (22 * n) 22 old (bytes_of r)) i ≡ slot old i
  before i l =
      sym (drop-take (22 * i) 22 (put_mid (22 * n) 22 old (bytes_of r)))
      ∙ ap (drop (22 * i)) (take-put_mid_below (22 * n) 22 old (bytes_of r) (22 * i + 22) (omega arith) (omega arith)) ∙ drop-take (22 * i) 22 old

  -- and it holds the bytes
  at : slot (put_mid (22 * n) 22 old (bytes_of r)) n ≡ bytes_of r
  at =
      let e : 22 * n + 22 - 22 * n ≡ 22 = omega arith in
      let f : take (22 * n + 22 - 22 * n) (drop (22 * n) (put_mid (22 * n) 22 old (bytes_of r))) ≡ bytes_of r =
      between-put_mid (22 * n) 22 old (bytes_of r) (22 * n + 22) (omega arith) (length-bytes r ∙ sym e) in
      rw e at f

  pub written-sound : BytesSound old n → BytesSound (put_mid (22 * n) 22 old (bytes_of r)) (n + 1)
  written-sound h = sound_more (put_mid (22 * n) 22 old (bytes_of r)) n r (λ i l malformed. h i l (λ x e. malformed x (before i l ∙ e))) at

  pub written-recs : take (n + 1) (recs_in (put_mid (22 * n) 22 old (bytes_of r))) ≡ take n (recs_in old) ++ model_of r ∷ []
  written-recs =
      let l = length-written in
      let bs = put_mid (22 * n) 22 old (bytes_of r) in
      let a = take-map-range_with_len (rec_at bs) 0 (length bs / 22) (n + 1) (omega arith) in
      let b = map-range_with_len_more (rec_at bs) 0 n (0 + n) refl in
      let c : map (rec_at bs) (range_with_len 0 n) ≡ map (rec_at old) (range_with_len 0 n) = same-recs bs old 0 n (λ i h. before i (omega arith)) in
      let d = take-map-range_with_len (rec_at old) 0 (length old / 22) n (omega arith) in
      let z : 0 + n ≡ n = omega arith in
      let e : rec_at bs (0 + n) ≡ model_of r = ap (rec_at bs) z ∙ ap rec_of at ∙ rec_of_lem r in
      a ∙ b ∙ ap₂ (λ (xs : List Rec) (x : Rec). xs ++ x ∷ []) (c ∙ sym d) e

-- what the check is to try at the goals on journals
pub ruleset slots = (tables, length-recs, chunk_at)
