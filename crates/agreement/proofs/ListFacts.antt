-- A changed element of a list, read with a default.
use Rattle.std.proofs.Common.{◌≡◌, ℕ, zero, suc, ◌⊎◌, List, [], ◌∷◌, map, get_or, set, replicate, sym, refl, ap, inl, inr}

module _ {A : Type 0} where
  -- it is the new one at its place, or what stood there before
  pub set_cases : (l : List A) (i : ℕ) (x : A) (j : ℕ) (d : A)
      → ((i ≡ j) × (get_or (set l i x) j d ≡ x)) ⊎ (get_or (set l i x) j d ≡ get_or l j d)
  set_cases [] i x j d = inr refl
  set_cases (y ∷ l) zero x zero d = inl (refl, refl)
  set_cases (y ∷ l) zero x (suc j) d = inr refl
  set_cases (y ∷ l) (suc i) x zero d = inr refl
  set_cases (y ∷ l) (suc i) x (suc j) d = elim (set_cases l i x j d) [ inl h ↦ inl (ap suc h.0, h.1) | inr h ↦ inr h ]

  -- where something other than the default stood, there is a place
  pub set_here : (l : List A) (i : ℕ) (x d : A) → (get_or l i d ≡ d → ⊥) → get_or (set l i x) i d ≡ x
  set_here [] i x d h = absurd (h refl)
  set_here (y ∷ l) zero x d h = refl
  set_here (y ∷ l) (suc i) x d h = set_here l i x d h

  pub get_or-mapped : (f : A → A) (l : List A) (i : ℕ) (d : A) → f d ≡ d → get_or (map f l) i d ≡ f (get_or l i d)
  get_or-mapped f [] i d e = sym e
  get_or-mapped f (x ∷ l) zero d e = refl
  get_or-mapped f (x ∷ l) (suc i) d e = get_or-mapped f l i d e

  pub blank-at : (n i : ℕ) (d : A) → get_or (replicate n d) i d ≡ d
  blank-at zero i d = refl
  blank-at (suc n) zero d = refl
  blank-at (suc n) (suc i) d = blank-at n i d
