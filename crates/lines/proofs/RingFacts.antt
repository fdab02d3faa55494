-- A ring in a buffer: its length, a push and a pop, at any head and length.
use Rattle.std.proofs.Common.{◌≡◌, ℕ, ◌+◌, ◌-◌, ◌<◌, ◌≤◌, min, false, cond, ltb, List, [], ◌∷◌, ◌++◌, length, get_or, take, drop, set, sym, refl, ap, ◌∙◌, ⊎_elim, add-one, arith}
use lib.Seq.{take-set-lt}
use Rattle.std.proofs.lemmas.List.{append-nil, append_assoc, length-take, length-drop, length-append, take-set-le, drop-set-add, drop-set-lt, set-append_left, set-append_right, take_more_set, drop_more, take_more, take-append-le, drop_all, take_all}
use Rattle.std.proofs.lemmas.Bool.{cond_below, le-ltb, lt-ltb, cases_lt}
use Rattle.lines.specs.Ring.{turned, ring, pushed}
use Rattle.lines.specs.Queues.{start_at}

module _ {A : Type 0} where
  pub length-turned : (b : List A) (h : ℕ) → h ≤ length b → length (turned b h) ≡ length b
  unfolding turned
  length-turned b h le = simp (length-append, length-drop, length-take) (omega arith)

  pub length-ring : (b : List A) (h n : ℕ) → h ≤ length b → n ≤ length b → length (ring b h n) ≡ n
  unfolding ring
  length-ring b h n hle nle = length-take n (turned b h) ∙ omega (arith, length-turned b h hle)

  -- a write at the place `n` after `h`
  pub turned-set-on : (b : List A) (h n : ℕ) (x : A) → h + n < length b → turned (set b (h + n) x) h ≡ set (turned b h) n x
  unfolding turned
  turned-set-on b h n x lt =
      let le : h ≤ h + n = omega arith in
      let l : n < length (drop h b) = simp length-drop (omega arith) in
      ap (λ r. drop h (set b (h + n) x) ++ r) (take-set-le h b (h + n) x le)
      ∙ ap (λ r. r ++ take h b) (drop-set-add h b n x)
      ∙ sym (set-append_left (drop h b) (take h b) n x l)

  pub turned-set-round : (b : List A) (h n i : ℕ) (x : A) → h ≤ length b → n < length b → length b - h ≤ n → i ≡ n - (length b - h) → turned (set b i x) h ≡ set (turned b h) n x
  unfolding turned
  turned-set-round b h n i x hle lt le e =
      let lh : i < h = omega arith in
      ap (λ r. drop h (set b i x) ++ r) (take-set-lt h b i x lh)
      ∙ ap (λ r. r ++ set (take h b) i x) (drop-set-lt h b i x lh)
      ∙ ap (λ j. drop h b ++ set (take h b) j x) e
      ∙ sym (set-append_right (drop h b) (take h b) (length b - h) n x (length-drop h b) le)

  pub ring-push : (b : List A) (h n i : ℕ) (x : A) → h ≤ length b → n < length b → turned (set b i x) h ≡ set (turned b h) n x → ring (set b i x) h (n + 1) ≡ ring b h n ++ x ∷ []
  unfolding ring
  ring-push b h n i x hle lt e =
      let l : n < length (turned b h) = omega (arith, length-turned b h hle) in
      ap (take (n + 1)) e ∙ take_more_set (turned b h) n x l

  pub ring-none : (b : List A) (h : ℕ) → ring b h 0 ≡ []
  unfolding ring
  ring-none b h = refl

  -- a head at the buffer's end is one at its start
  pub ring-round : (b : List A) (h n : ℕ) → length b ≤ h → ring b h n ≡ ring b 0 n
  unfolding ring turned
  ring-round b h n le = ap (take n) (ap (λ r. r ++ take h b) (drop_all h b le) ∙ take_all h b le ∙ sym (append-nil b))

  pub ring-pop : (b : List A) (h n : ℕ) (x : A) → x ≡ get_or b h x → h < length b → 0 < n → n ≤ length b → ring b h n ≡ x ∷ ring b (h + 1) (n - 1)
  unfolding ring turned
  ring-pop b h n x e lt pos le =
      let m : n ≡ (n - 1) + 1 = omega arith in
      let step : drop h b ++ take h b ≡ x ∷ (drop (h + 1) b ++ take h b) = ap (λ r. r ++ take h b) (drop_more b h x lt) ∙ ap (λ y. y ∷ (drop (h + 1) b ++ take h b)) (sym e) in
      let l : n - 1 ≤ length (drop (h + 1) b ++ take h b) = simp (length-append, length-drop, length-take) (omega arith) in
      ap (λ r. take n r) step
      ∙ ap (λ k. take k (x ∷ (drop (h + 1) b ++ take h b))) (m ∙ add-one (n - 1))
      ∙ ap (λ r. x ∷ r) (sym (take-append-le (n - 1) (drop (h + 1) b ++ take h b) (x ∷ []) l)
      ∙ ap (take (n - 1)) (append_assoc (drop (h + 1) b) (take h b) (x ∷ [])
      ∙ ap (λ r. drop (h + 1) b ++ r) (ap (λ y. take h b ++ y ∷ []) e ∙ sym (take_more b h x lt))))

  -- a push where there is room, and where there is none, in the words of the contract
  pub pushed_room : (b : List A) (h n i : ℕ) (x : A) → h ≤ length b → n < length b → turned (set b i x) h ≡ set (turned b h) n x → ring (set b i x) h (n + 1) ≡ pushed (length b) (ring b h n) x
  pushed_room b h n i x hle lt e =
      ring-push b h n i x hle lt e ∙ cond_below (length (ring b h n)) (length b) (ring b h n ++ x ∷ []) (ring b h n) (omega (arith, length-ring b h n hle (omega arith)))

  pub pushed-on : (b : List A) (h n i : ℕ) (x : A) → h ≤ length b → n < length b - h → i ≡ h + n → ring (set b i x) h (n + 1) ≡ pushed (length b) (ring b h n) x
  pushed-on b h n i x hle lt e =
      pushed_room b h n i x hle (omega arith) (ap (λ j. turned (set b j x) h) e ∙ turned-set-on b h n x (omega arith))

  pub pushed-round : (b : List A) (h n i : ℕ) (x : A) → h ≤ length b → n < length b → length b - h ≤ n → i ≡ n - (length b - h) → ring (set b i x) h (n + 1) ≡ pushed (length b) (ring b h n) x
  pushed-round b h n i x hle lt le e = pushed_room b h n i x hle lt (turned-set-round b h n i x hle lt le e)

-- the start lies in the buffer
pub start-in : (h n s : ℕ) → s ≡ start_at h n → s ≤ n
start-in h n s e = grind arith

pub start-below : (h n s : ℕ) → 0 < n → s ≡ start_at h n → s < n
start-below h n s l e = grind arith

module _ {A : Type 0} where
  pub ring-start : (b : List A) (h n s : ℕ) → s ≡ start_at h (length b) → ring b h n ≡ ring b s n
  ring-start b h n s e =
      ⊎_elim (λ (l : h < length b). ap (λ k. ring b k n) (sym (e ∙ ap (λ t. cond t h 0) (lt-ltb h (length b) l))))
      (λ (l : length b ≤ h). ring-round b h n l ∙ ap (λ k. ring b k n) (sym (e ∙ ap (λ t. cond t h 0) (le-ltb h (length b) l))))
      (cases_lt h (length b))

  pub length-any : (b : List A) (h n : ℕ) → length (ring b h n) ≡ min n (length b)
  unfolding ring turned
  length-any b h n = simp (length-take, length-append, length-drop) (omega arith)

  pub ring-more : (b : List A) (h n : ℕ) → length b ≤ n → ring b h n ≡ ring b h (length b)
  unfolding ring turned
  ring-more b h n l =
      let m : length (drop h b ++ take h b) ≤ length b = simp (length-take, length-append, length-drop) (omega arith) in
      take_all n (drop h b ++ take h b) (omega arith) ∙ sym (take_all (length b) (drop h b ++ take h b) m)

  pub any-on : (b : List A) (h n s i : ℕ) (x : A) → n < length b → s ≡ start_at h (length b) → n < length b - s → i ≡ s + n → ring (set b i x) s (n + 1) ≡ pushed (length b) (ring b h n) x
  any-on b h n s i x l e m j =
      pushed-on b s n i x (start-in h (length b) s e) m j ∙ ap (λ w. pushed (length b) w x) (sym (ring-start b h n s e))

  pub any-round : (b : List A) (h n s i : ℕ) (x : A) → n < length b → s ≡ start_at h (length b) → length b - s ≤ n → i ≡ n - (length b - s) → ring (set b i x) s (n + 1) ≡ pushed (length b) (ring b h n) x
  any-round b h n s i x l e m j =
      pushed-round b s n i x (start-in h (length b) s e) l m j ∙ ap (λ w. pushed (length b) w x) (sym (ring-start b h n s e))

  pub any-full : (b : List A) (h n : ℕ) (x : A) → length b ≤ n → ring b h n ≡ pushed (length b) (ring b h n) x
  any-full b h n x l =
      let e : ltb (length (ring b h n)) (length b) ≡ false = le-ltb _ _ (omega (arith, length-any b h n)) in
      sym (ap (λ t. cond t (ring b h n ++ x ∷ []) (ring b h n)) e)

  -- no more than the buffer holds
  pub ring_cut : (b : List A) (h n m : ℕ) → m ≡ length (ring b h n) → ring b h n ≡ ring b h m
  ring_cut b h n m e =
      ⊎_elim (λ (l : n < length b). let q : n ≡ m = omega (arith, length-any b h n) in ap (ring b h) q)
      (λ (l : length b ≤ n). let q : length b ≡ m = omega (arith, length-any b h n) in ring-more b h n l ∙ ap (ring b h) q)
      (cases_lt n (length b))

  pub any-pop : (b : List A) (h n m s : ℕ) (x : A) → m ≡ length (ring b h n) → (m ≡ 0 → ⊥) → s ≡ start_at h (length b) → x ≡ get_or b s x → ring b h n ≡ x ∷ ring b (s + 1) (m - 1)
  any-pop b h n m s x e z f r =
      let pos : 0 < m = omega arith in
      let le : m ≤ length b = omega (arith, length-any b h n) in
      let lt : s < length b = start-below h (length b) s (omega arith) f in
      ring_cut b h n m e ∙ ring-start b h m s f ∙ ring-pop b s m x r lt pos le

  pub pop-in : (b : List A) (h n m s : ℕ) → m ≡ length (ring b h n) → (m ≡ 0 → ⊥) → s ≡ start_at h (length b) → s < length b
  pop-in b h n m s e z f = start-below h (length b) s (omega (arith, length-any b h n)) f
