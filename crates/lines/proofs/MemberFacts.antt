-- Membership, the notifications of rows, and what a run of posts leaves.
use Rattle.std.proofs.Common.{◌≡◌, ℕ, ◌+◌, ◌%◌, ◌^◌, ◌<◌, ◌⊎◌, List, [], ◌∷◌, ◌++◌, length, get_or, take, Some, None, Option, sym, refl, ap, ◌∙◌, subst, inl, inr, ⊎_elim, add-one}
use Rattle.std.proofs.lemmas.List.{append_assoc, append-nil, take_more, length_push}
use Rattle.words.specs.declared.row.Row.{Row}
use Rattle.words.specs.Notes.{Note}
use Rattle.words.specs.Notes.{note_in}
use Rattle.lines.specs.Lines.{In, Within, Chain, there, notes_in, wound}

module _ {A : Type 0} where
  pub in_left : (x : A) (xs ys : List A) → In x xs → In x (xs ++ ys)
  in_left x [] ys h = absurd h
  in_left x (z ∷ zs) ys (inl e) = inl e
  in_left x (z ∷ zs) ys (inr h) = inr (in_left x zs ys h)

  pub in_right : (x : A) (xs ys : List A) → In x ys → In x (xs ++ ys)
  in_right x [] ys h = h
  in_right x (z ∷ zs) ys h = inr (in_right x zs ys h)

  pub in-cases : (x : A) (xs ys : List A) → In x (xs ++ ys) → In x xs ⊎ In x ys
  in-cases x [] ys h = inr h
  in-cases x (z ∷ zs) ys (inl e) = inl (inl e)
  in-cases x (z ∷ zs) ys (inr h) = ⊎_elim (λ k. inl (inr k)) inr (in-cases x zs ys h)

  pub within_same : (xs : List A) → Within xs xs
  unfolding Within
  within_same xs x h = h

  pub within-eq : (xs ys : List A) → xs ≡ ys → Within xs ys
  within-eq xs ys e = subst (Within xs) e (within_same xs)

  pub within-left : (xs ys : List A) → Within xs (xs ++ ys)
  unfolding Within
  within-left xs ys x h = in_left x xs ys h

  -- one more post after those of `s`
  pub within_more : (a b c s t : List A) → Within b (a ++ s) → Within c (b ++ t) → Within c (a ++ (s ++ t))
  unfolding Within
  within_more a b c s t f g x h =
      let P : List A → Type 0 = In x in
      subst P (append_assoc a s t) (⊎_elim (λ k. in_left x (a ++ s) t (f x k)) (in_right x (a ++ s) t) (in-cases x b t (g x h)))

pub notes_in-append : (xs ys : List Row) → notes_in (xs ++ ys) ≡ notes_in xs ++ notes_in ys
notes_in-append [] ys = refl
notes_in-append (x ∷ xs) ys = ap (there (note_in x)) (notes_in-append xs ys) ∙ into (note_in x)
  where
    into : (o : Option Note) → there o (notes_in xs ++ notes_in ys) ≡ there o (notes_in xs) ++ notes_in ys
    into None = refl
    into (Some r) = refl

-- one more row
pub notes_in-more : (xs : List Row) (i : ℕ) (d : Row) → i < length xs → notes_in (take (i + 1) xs) ≡ notes_in (take i xs) ++ there (note_in (get_or xs i d)) []
notes_in-more xs i d h = ap notes_in (take_more xs i d h) ∙ notes_in-append (take i xs) (get_or xs i d ∷ [])

pub wound-push : (xs : List Note) (r : Note) (p : ℕ) → wound (length (xs ++ r ∷ [])) p ≡ (wound (length xs) p + 1) % 2 ^ 64
wound-push xs r p = ap (λ n. wound n p) (length_push xs r ∙ add-one (length xs))

pub notes_in-some : (xs : List Row) (i : ℕ) (d : Row) (r : Note) → i < length xs → Some r ≡ note_in (get_or xs i d) → notes_in (take (i + 1) xs) ≡ notes_in (take i xs) ++ r ∷ []
notes_in-some xs i d r h e = notes_in-more xs i d h ∙ ap (λ o. notes_in (take i xs) ++ there o []) (sym e)

pub notes_in-none : (xs : List Row) (i : ℕ) (d : Row) → i < length xs → None ≡ note_in (get_or xs i d) → notes_in (take (i + 1) xs) ≡ notes_in (take i xs)
notes_in-none xs i d h e = notes_in-more xs i d h ∙ ap (λ o. notes_in (take i xs) ++ there o []) (sym e) ∙ append-nil (notes_in (take i xs))

-- how a line stands after `s` was posted on one that held `a` with `p` posts
abbrev pub Posting : List Note → ℕ → List Note → List Note → ℕ → Type 0
Posting a p s b q = Within b (a ++ s) × (q ≡ wound (length s) p)

pub posting-none : (a : List Note) (p : ℕ) → Posting a p [] a p
posting-none a p = (within-left a [], refl)

pub posting-more : (a : List Note) (p : ℕ) (s s' b c : List Note) (q q' : ℕ) (r : Note) → Posting a p s b q → Within c (b ++ r ∷ []) → q' ≡ (q + 1) % 2 ^ 64 → s' ≡ s ++ r ∷ [] → Posting a p s' c q'
posting-more a p s s' b c q q' r h w n e =
    subst (λ (t : List Note). Posting a p t c q') (sym e) (within_more a b c s (r ∷ []) h.0 w, n ∙ ap (λ k. (k + 1) % 2 ^ 64) h.1 ∙ sym (wound-push s r p))

-- one step more at the end
pub chain_more : {S A : Type 0} (R : S → A → S → Type 0) (s m t : S) (xs : List A) (x : A) → Chain R s xs m → R m x t → Chain R s (xs ++ x ∷ []) t
chain_more {S} R s m t [] x e r = (t, subst (λ (u : S). R u x t) (sym e) r, refl)
chain_more R s m t (y ∷ xs) x h r = (h.0, h.1, chain_more R h.0 m t xs x h.2 r)

-- a post of the notification that a row stands for, or none where it stands for none
module _ {S : Type 0} (W : S → List Note) (P : S → ℕ) (R : S → Note → S → Type 0) where
  -- how a line stands after the notifications were posted one by one
  abbrev pub Run : S → List Note → S → Type 0
  Run s ns t = Posting (W s) (P s) ns (W t) (P t) × Chain R s ns t

  pub run_none : (s : S) → Run s [] s
  run_none s = (posting-none (W s) (P s), refl)

  pub run_more : (s m t : S) (rows : List Row) (i : ℕ) (d : Row) (n : Note) → i < length rows → Some n ≡ note_in (get_or rows i d) → Run s (notes_in (take i rows)) m
      → Within (W t) (W m ++ n ∷ []) → P t ≡ (P m + 1) % 2 ^ 64 → R m n t → Run s (notes_in (take (i + 1) rows)) t
  run_more s m t rows i d n l e h w c r =
      let more = notes_in-some rows i d n l e in (
        posting-more (W s) (P s) (notes_in (take i rows)) (notes_in (take (i + 1) rows)) (W m) (W t) (P m) (P t) n h.0 w c more,
        subst (λ (ns : List Note). Chain R s ns t) (sym more) (chain_more R s m t (notes_in (take i rows)) n h.1 r),
      )

  pub run-skip : (s m : S) (rows : List Row) (i : ℕ) (d : Row) → i < length rows → None ≡ note_in (get_or rows i d) → Run s (notes_in (take i rows)) m → Run s (notes_in (take (i + 1) rows)) m
  run-skip s m rows i d l e h = subst (λ (ns : List Note). Run s ns m) (sym (notes_in-none rows i d l e)) h
