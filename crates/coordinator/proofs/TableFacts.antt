-- What one pass over the table tells, and what it changes.
use Rattle.std.proofs.Common.{◌≡◌, ℕ, zero, suc, ◌+◌, ◌<◌, Bool, not, ◌&&◌, List, [], ◌∷◌, ◌++◌, length, map, take, drop, set, get_or, Some, None, refl, ap, ◌∙◌, ◌-◌, ◌⊎◌, sym, inl, inr, replicate, append_assoc, add-one, arith}
use Rattle.std.proofs.lemmas.List.FromFn.{map-range_with_len_more, length-map-range_with_len}
use Rattle.std.specs.List.{list_all, position_from, range_with_len}
use Rattle.std.specs.Option.{is_none}
use Rattle.agreement.specs.CoordinatorRules.{none_is, vacant_from}
use Rattle.agreement.specs.Names.{Place}

pub all_not : (q : Place → Bool) (ps : List Place) → list_all (λ p. not (q p)) ps ≡ none_is q ps
all_not q [] = refl
all_not q (p ∷ ps) = ap (λ b. not (q p) && b) (all_not q ps)

pub first_none : (i : ℕ) (ps : List Place) → position_from is_none i ps ≡ vacant_from i ps
first_none i [] = refl
first_none i (None ∷ ps) = refl
first_none i (Some p ∷ ps) = rw add-one (first_none (suc i) ps)

-- ── a change of each place in turn ──

mapped-set : (f : Place → Place) (ps : List Place) (i : ℕ) (d : Place) → i < length ps
    → set (map f (take i ps) ++ drop i ps) i (f (get_or (map f (take i ps) ++ drop i ps) i d)) ≡ map f (take (suc i) ps) ++ drop (suc i) ps
mapped-set f [] i d h = let no : ⊥ = omega arith in absurd no
mapped-set f (p ∷ ps) zero d h = refl
mapped-set f (p ∷ ps) (suc i) d h = ap (λ (qs : List Place). f p ∷ qs) (mapped-set f ps i d (omega arith))

pub mapped_more : (f : Place → Place) (ps qs : List Place) (i : ℕ) (p : Place) → qs ≡ map f (take i ps) ++ drop i ps → i < length ps → p ≡ f (get_or qs i None)
    → set qs i p ≡ map f (take (i + 1) ps) ++ drop (i + 1) ps
mapped_more f ps qs i p e h v = rw (v, e, add-one) (mapped-set f ps i None h)

-- ── a table that is filled place by place, vacant behind ──

set-behind : (xs : List Place) (r : ℕ) (v : Place) → set (xs ++ None ∷ replicate r None) (length xs) v ≡ (xs ++ v ∷ []) ++ replicate r None
set-behind [] r v = refl
set-behind (x ∷ xs) r v = ap (λ (ys : List Place). x ∷ ys) (set-behind xs r v)

-- one place more of f, and whatever it is, it is written unless it is vacant
pub filled_more : (f : ℕ → Place) (n i : ℕ) (ps qs : List Place) → i < n → ps ≡ map f (range_with_len 0 i) ++ replicate (n - i) None
    → (qs ≡ set ps i (f i)) ⊎ ((qs ≡ ps) × (f i ≡ None)) → qs ≡ map f (range_with_len 0 (i + 1)) ++ replicate (n - (i + 1)) None
filled_more f n i ps qs h e q =
    let r : n - i ≡ suc (n - (i + 1)) = omega arith in
    let more = map-range_with_len_more f 0 i i (omega arith) in
    let was : ps ≡ map f (range_with_len 0 i) ++ None ∷ replicate (n - (i + 1)) None = e ∙ ap (λ (k : ℕ). map f (range_with_len 0 i) ++ replicate k None) r in
    let long : length (map f (range_with_len 0 i)) ≡ i = length-map-range_with_len f 0 i in
    elim q [
      | inl a ↦
          a ∙ ap (λ (xs : List Place). set xs i (f i)) was
          ∙ ap (λ (k : ℕ). set (map f (range_with_len 0 i) ++ None ∷ replicate (n - (i + 1)) None) k (f i)) (sym long)
          ∙ set-behind (map f (range_with_len 0 i)) (n - (i + 1)) (f i) ∙ ap (λ (xs : List Place). xs ++ replicate (n - (i + 1)) None) (sym more)
      | inr a ↦
          a.0 ∙ was ∙ sym (append_assoc (map f (range_with_len 0 i)) (None ∷ []) (replicate (n - (i + 1)) None))
          ∙ ap (λ (v : Place). (map f (range_with_len 0 i) ++ v ∷ []) ++ replicate (n - (i + 1)) None) (sym a.1)
          ∙ ap (λ (xs : List Place). xs ++ replicate (n - (i + 1)) None) (sym more)
    ]
