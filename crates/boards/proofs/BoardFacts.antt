-- What a post on a board and a search of its cells leave and find.
use Rattle.std.proofs.Common.{◌≡◌, ℕ, zero, suc, Bool, true, false, ◌+◌, ◌-◌, ◌%◌, ◌<◌, ◌≤◌, List, [], ◌∷◌, ◌++◌, length, get_or, take, drop, set, is_some, not, cond, IfSome, Some, None, Option, sym, refl, ap, ◌∙◌, subst, inl, ⊎_elim, arith}
use Rattle.std.specs.Option.{option_map}
use Rattle.std.proofs.lemmas.List.{take-append-drop, length-append, length-drop, get_or_append_left, get_or-append_right, get_or-drop, get_or-take}
use Rattle.std.proofs.lemmas.Bool.{cases_lt}
use Rattle.std.proofs.lemmas.Bool.Decides.{nat_tests}
use Rattle.std.specs.List.{position, position_or_len}
use Rattle.words.specs.declared.row.Row.{Row}
use Rattle.words.specs.Notes.{Note}
use Rattle.words.specs.declared.notification.Notification.{Notification}
use Rattle.words.specs.Notes.{note_of, note_in, row_of, cell_of}
use Rattle.words.proofs.NoteFacts.{note-back}
use Rattle.lines.specs.Ring.{first, turned}
use Rattle.words.specs.Rows.{blank_row}
use Rattle.boards.specs.Boards.{filled, skip, leading, past, moved_on}
use Rattle.lines.specs.Kept.{in-there}
use Rattle.lines.specs.Lines.{In, Within, there, notes_in}
use Rattle.lines.proofs.RingFacts.{length-turned}
use Rattle.lines.proofs.MemberFacts.{in_left, in_right, in-cases, notes_in-append}
use Rattle.lines.proofs.TakeFacts.{in-there-here, there-cases, in-first, waited-in}

pub within-set : (b : List Row) (i : ℕ) (n : Note) → Some n ≡ note_in (row_of n) → Within (notes_in (set b i (row_of n))) (notes_in b ++ n ∷ [])
unfolding Within
within-set [] i n back y h = absurd h
within-set (x ∷ xs) zero n back y h =
    ⊎_elim (λ e. in_right y (notes_in (x ∷ xs)) (n ∷ []) (inl (let q : y ≡ n = cc in q))) (λ k. in_left y (notes_in (x ∷ xs)) (n ∷ []) (in-there y (note_in x) (notes_in xs) k))
    (there-cases y (note_in (row_of n)) (notes_in xs) h)
within-set (x ∷ xs) (suc i) n back y h =
    ⊎_elim (λ e. in_left y (notes_in (x ∷ xs)) (n ∷ []) (in-there-here y (note_in x) (notes_in xs) e))
    (λ k. ⊎_elim (λ j. in_left y (notes_in (x ∷ xs)) (n ∷ []) (in-there y (note_in x) (notes_in xs) j)) (in_right y (notes_in (x ∷ xs)) (n ∷ [])) (in-cases y (notes_in xs) (n ∷ []) (within-set xs i n back y k)))
    (there-cases y (note_in x) (notes_in (set xs i (row_of n))) h)

pub in-turned : (y : Note) (b : List Row) (h : ℕ) → In y (notes_in (turned b h)) → In y (notes_in b)
unfolding turned
in-turned y b h m =
    let P : List Note → Type 0 = In y in
    let back : notes_in (take h b) ++ notes_in (drop h b) ≡ notes_in b = sym (notes_in-append (take h b) (drop h b)) ∙ ap notes_in (take-append-drop h b) in
    subst P back (⊎_elim (in_right y (notes_in (take h b)) (notes_in (drop h b))) (in_left y (notes_in (take h b)) (notes_in (drop h b))) (in-cases y (notes_in (drop h b)) (notes_in (take h b)) (subst P (notes_in-append (drop h b) (take h b)) m)))

pub waited-turned : (o : Option Notification) (b : List Row) (h : ℕ) → option_map note_of o ≡ first (notes_in (turned b h)) → IfSome o (λ n. In (note_of n) (notes_in b))
waited-turned o b h e = waited-in o (notes_in b) (λ n q. in-turned n b h (in-first (notes_in (turned b h)) n (q ∙ e)))

pub get_or-turned : (b : List Row) (h k : ℕ) (d : Row) → length b ≡ 32 → h < 32 → k < 32 → get_or (turned b h) k d ≡ get_or b ((h + k) % 32) d
unfolding turned
get_or-turned b h k d n hl kl =
    ⊎_elim
    (λ (on : h + k < 32). let l : k < length (drop h b) = simp length-drop (omega arith) in
    let e : h + k ≡ (h + k) % 32 = omega arith in
    get_or_append_left (drop h b) (take h b) d k l ∙ get_or-drop h b k d ∙ ap (λ j. get_or b j d) e)
    (λ (round : 32 ≤ h + k). let l : length (drop h b) ≡ 32 - h = simp length-drop (omega arith) in
    let le : 32 - h ≤ k = omega arith in
    let lt : k - (32 - h) < h = omega arith in
    let e : k - (32 - h) ≡ (h + k) % 32 = omega arith in
    get_or-append_right (drop h b) (take h b) (32 - h) k d l le ∙ get_or-take h b (k - (32 - h)) d lt ∙ ap (λ j. get_or b j d) e)
    (cases_lt (h + k) 32)

-- the number of the rows before the first filled one is where that one stands
pub leading-first : (t : List Row) → leading t ≡ position_or_len filled t
leading-first [] = refl
leading-first (w ∷ ws) = go (note_in w) (leading-first ws)
  where
    go : (o : Option Note) → leading ws ≡ position_or_len filled ws → skip o (leading ws) ≡ cond (not (is_some o)) (1 + position_or_len filled ws) 0
    go None e = omega arith
    go (Some n) e = refl

position-at : (t : List Row) (k : ℕ) → Some k ≡ position filled t → (k < length t) × (k ≡ leading t)
position-at t k e = let l = leading-first t in grind (arith, nat_tests)

position-past : (t : List Row) → None ≡ position filled t → length t ≤ leading t
position-past t e = let l = leading-first t in grind (arith, nat_tests)

-- what stands there
pub first-leading : (t : List Row) (d : Row) → leading t < length t → note_in (get_or t (leading t) d) ≡ first (notes_in t)
first-leading [] d l = absurd (omega arith)
first-leading (x ∷ xs) d l = go (note_in x) refl (λ q. first-leading xs d q) l
  where
    go : (o : Option Note) → note_in x ≡ o → (leading xs < length xs → note_in (get_or xs (leading xs) d) ≡ first (notes_in xs)) → skip o (leading xs) < suc (length xs) → note_in (get_or (x ∷ xs) (skip o (leading xs)) d) ≡ first (there o (notes_in xs))
    go None e below q = below (omega arith)
    go (Some y) e below q = e

pub none-leading : (t : List Row) → length t ≤ leading t → notes_in t ≡ []
none-leading [] l = refl
none-leading (x ∷ xs) l = go (note_in x) (none-leading xs) l
  where
    go : (o : Option Note) → (length xs ≤ leading xs → notes_in xs ≡ []) → suc (length xs) ≤ skip o (leading xs) → there o (notes_in xs) ≡ []
    go None below q = below (omega arith)
    go (Some y) below q = absurd (omega arith)

pub past-leading : (t : List Row) (h m : ℕ) → leading t < length t → past (first (notes_in t)) h m ≡ (h + m + 1) % 32
past-leading [] h m l = absurd (omega arith)
past-leading (x ∷ xs) h m l = go (note_in x) (past-leading xs h m) l
  where
    go : (o : Option Note) → (leading xs < length xs → past (first (notes_in xs)) h m ≡ (h + m + 1) % 32) → skip o (leading xs) < suc (length xs) → past (first (there o (notes_in xs))) h m ≡ (h + m + 1) % 32
    go None below q = below (omega arith)
    go (Some y) below q = refl

-- a search of two lists, one behind the other: of the first, and where it finds none of the second
module _ {X : Type 0} (p : X → Bool) where
  len-front : (xs ys : List X) → position_or_len p xs < length xs → position_or_len p (xs ++ ys) ≡ position_or_len p xs
  len-front [] ys h = absurd (omega arith)
  len-front (x ∷ xs) ys h = go (not (p x)) (len-front xs ys) h
    where
      go : (b : Bool) → (position_or_len p xs < length xs → position_or_len p (xs ++ ys) ≡ position_or_len p xs) → cond b (1 + position_or_len p xs) 0 < suc (length xs) → cond b (1 + position_or_len p (xs ++ ys)) 0 ≡ cond b (1 + position_or_len p xs) 0
      go true below l = ap (λ n. 1 + n) (below (omega arith))
      go false below l = refl

  len-back : (xs ys : List X) → length xs ≤ position_or_len p xs → position_or_len p (xs ++ ys) ≡ length xs + position_or_len p ys
  len-back [] ys h = omega arith
  len-back (x ∷ xs) ys h = go (not (p x)) (len-back xs ys) h
    where
      go : (b : Bool) → (length xs ≤ position_or_len p xs → position_or_len p (xs ++ ys) ≡ length xs + position_or_len p ys) → suc (length xs) ≤ cond b (1 + position_or_len p xs) 0 → cond b (1 + position_or_len p (xs ++ ys)) 0 ≡ suc (length xs) + position_or_len p ys
      go true below l = omega (arith, below (omega arith))
      go false below l = absurd (omega arith)

  at-position : (xs : List X) (k : ℕ) → Some k ≡ position p xs → (k < length xs) × (k ≡ position_or_len p xs)
  at-position xs k e = grind (arith, nat_tests)

  past-position : (xs : List X) → None ≡ position p xs → length xs ≤ position_or_len p xs
  past-position xs e = grind (arith, nat_tests)

  pub found-front : (xs ys : List X) (k : ℕ) → Some k ≡ position p xs → Some k ≡ position p (xs ++ ys)
  found-front xs ys k e =
      let a = at-position xs k e in
      let f = len-front xs ys (omega (arith, a.0, a.1)) in
      let l = length-append xs ys in
      grind (arith, nat_tests)

  pub found-back : (xs ys : List X) (k : ℕ) → None ≡ position p xs → Some k ≡ position p ys → Some (length xs + k) ≡ position p (xs ++ ys)
  found-back xs ys k n e =
      let a = at-position ys k e in
      let f = len-back xs ys (past-position xs n) in
      let l = length-append xs ys in
      grind (arith, nat_tests)

  pub found-nowhere : (xs ys : List X) → None ≡ position p xs → None ≡ position p ys → None ≡ position p (xs ++ ys)
  found-nowhere xs ys n e =
      let a = past-position ys e in
      let f = len-back xs ys (past-position xs n) in
      let l = length-append xs ys in
      grind (arith, nat_tests)

-- The same in the words of the code: a search from h found the row k places on, or none.
pub board-near : (b : List Row) (h k : ℕ) → length b ≡ 32 → h < 32 → Some k ≡ position filled (turned b h) → k < 32
board-near b h k n hl e = let p = position-at (turned b h) k e in omega (arith, p.0, length-turned b h (omega arith))

pub board-found : (b : List Row) (h k : ℕ) (o : Option Notification) → length b ≡ 32 → h < 32 → Some k ≡ position filled (turned b h) → option_map note_of o ≡ note_in (get_or b ((h + k) % 32) blank_row) → option_map note_of o ≡ first (notes_in (turned b h))
board-found b h k o n hl e f =
    let p = position-at (turned b h) k e in
    let kl = board-near b h k n hl e in
    f ∙ ap note_in (sym (get_or-turned b h k blank_row n hl kl)) ∙ ap (λ j. note_in (get_or (turned b h) j blank_row)) p.1 ∙ first-leading (turned b h) blank_row (omega (arith, p.0, p.1))

pub board-next : (b : List Row) (h k : ℕ) → length b ≡ 32 → h < 32 → Some k ≡ position filled (turned b h) → ((h + k) % 32 + 1) % 32 ≡ moved_on h (turned b h)
board-next b h k n hl e =
    let p = position-at (turned b h) k e in
    let step : ((h + k) % 32 + 1) % 32 ≡ (h + k + 1) % 32 = omega arith in
    step ∙ ap (λ m. (h + m + 1) % 32) p.1 ∙ sym (past-leading (turned b h) h (leading (turned b h)) (omega (arith, p.0, p.1)))

pub board-none : (b : List Row) (h : ℕ) → None ≡ position filled (turned b h) → None ≡ first (notes_in (turned b h))
board-none b h e = sym (ap first (none-leading (turned b h) (position-past (turned b h) e)))

pub board-still : (b : List Row) (h : ℕ) → None ≡ position filled (turned b h) → h ≡ moved_on h (turned b h)
board-still b h e = ap (λ o. past o h (leading (turned b h))) (board-none b h e)

-- a post, in the words of the code
pub board-posted : (b : List Row) (i : ℕ) (w : Row) (n : Notification) → i ≡ cell_of (note_of n) → w ≡ row_of (note_of n) → Within (notes_in (set b i w)) (notes_in b ++ note_of n ∷ [])
board-posted b i w n e f = subst (λ (v : Row). Within (notes_in (set b i v)) (notes_in b ++ note_of n ∷ [])) (sym f) (within-set b i (note_of n) (note-back n))
