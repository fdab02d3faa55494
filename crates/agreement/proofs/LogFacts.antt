-- What adding, securing and a restart keep of a log, for every test of records.
use Rattle.std.proofs.Common.{◌≡◌, ℕ, zero, suc, ◌^◌, Bool, true, false, cond, eqb, ◌⊎◌, List, [], ◌∷◌, ◌++◌, take, Some, None, sym, refl, subst, inl, inr, arith}
use Rattle.std.proofs.lemmas.Bool.{eq-eqb, and_from, and_parts, or_cases, or_left, or_right, both_ways}
use Rattle.records.specs.Recs.{Rec}
use Rattle.agreement.specs.Logs.{LogState, added, secured, restarted, decision_kind, is_decision, is_own, of_transaction, first, some_is, Has, InLog, Without, Fresh}
use Rattle.agreement.specs.ParticipantRules.{own_record}

module _ (p : Rec → Bool) where
  pub has_left : (a b : List Rec) → Has p a → Has p (a ++ b)
  has_left [] b h = absurd h
  has_left (r ∷ a) b (inl e) = inl e
  has_left (r ∷ a) b (inr h) = inr (has_left a b h)

  pub has_right : (a b : List Rec) → Has p b → Has p (a ++ b)
  has_right [] b h = h
  has_right (r ∷ a) b h = inr (has_right a b h)

  pub has-cases : (a b : List Rec) → Has p (a ++ b) → Has p a ⊎ Has p b
  has-cases [] b h = inr h
  has-cases (r ∷ a) b (inl e) = inl (inl e)
  has-cases (r ∷ a) b (inr h) = elim (has-cases a b h) [ inl k ↦ inl (inr k) | inr k ↦ inr k ]

  has-take : (k : ℕ) (l : List Rec) → Has p (take k l) → Has p l
  has-take zero l h = absurd h
  has-take (suc k) [] h = h
  has-take (suc k) (r ∷ l) (inl e) = inl e
  has-take (suc k) (r ∷ l) (inr h) = inr (has-take k l h)

  -- adding
  pub added_new : (r : Rec) (l : LogState) → p r ≡ true → InLog p (added r l)
  added_new r l e = inr (has_right l.loose (r ∷ []) (inl e))

  pub added-back : (r : Rec) (l : LogState) → InLog p (added r l) → InLog p l ⊎ (p r ≡ true)
  added-back r l (inl h) = inl (inl h)
  added-back r l (inr h) = elim (has-cases l.loose (r ∷ []) h) [ inl k ↦ inl (inr k) | inr (inl e) ↦ inr e | inr (inr k) ↦ absurd k ]

  -- securing
  pub secured-all : (l : LogState) → InLog p l → Has p (secured l).safe
  secured-all l (inl h) = has_left l.safe l.loose h
  secured-all l (inr h) = has_right l.safe l.loose h

  pub secured-back : (l : LogState) → InLog p (secured l) → InLog p l
  secured-back l (inl h) = has-cases l.safe l.loose h
  secured-back l (inr h) = absurd h

  -- a restart
  pub restarted-safe : (k : ℕ) (l : LogState) → Has p l.safe → Has p (restarted k l).safe
  restarted-safe k l h = has_left l.safe (take k l.loose) h

  pub restarted-back : (k : ℕ) (l : LogState) → InLog p (restarted k l) → InLog p l
  restarted-back k l (inl h) = elim (has-cases l.safe (take k l.loose) h) [ inl a ↦ inl a | inr a ↦ inr (has-take k l.loose a) ]
  restarted-back k l (inr h) = absurd h

  -- the first record that passes
  pub first-none : (l : List Rec) → first p l ≡ None → Has p l → ⊥
  first-none [] e h = h
  first-none (r ∷ l) e h = go (p r) refl e h (first-none l)
    where
      go : (b : Bool) → p r ≡ b → cond b (Some r) (first p l) ≡ None → (p r ≡ true) ⊎ Has p l → (first p l ≡ None → Has p l → ⊥) → ⊥
      go true q f k ih = let z : ◌≡◌ {A = ℕ} 0 1 = cc in omega arith
      go false q f (inl k) ih = both_ways (p r) q k
      go false q f (inr k) ih = ih f k

  pub first_some : (l : List Rec) (r : Rec) → first p l ≡ Some r → (p r ≡ true) × ((q : Rec → Bool) → q r ≡ true → Has q l)
  first_some [] r e = let z : ◌≡◌ {A = ℕ} 0 1 = cc in absurd (let n : ⊥ = omega arith in n)
  first_some (x ∷ l) r e = go (p x) refl e (first_some l r)
    where
      go : (b : Bool) → p x ≡ b → cond b (Some x) (first p l) ≡ Some r → (first p l ≡ Some r → (p r ≡ true) × ((q : Rec → Bool) → q r ≡ true → Has q l))
          → (p r ≡ true) × ((q : Rec → Bool) → q r ≡ true → Has q (x ∷ l))
      go true e' f ih = let same : x ≡ r = cc in (subst (λ (y : Rec). p y ≡ true) same e', λ q k. inl (subst (λ (y : Rec). q y ≡ true) (sym same) k))
      go false e' f ih = let h = ih f in (h.0, λ q k. inr (h.1 q k))

  -- whether one passes
  pub some-has : (l : List Rec) → some_is p l ≡ true → Has p l
  some-has [] e = let z : ◌≡◌ {A = ℕ} 0 1 = cc in absurd (let n : ⊥ = omega arith in n)
  some-has (r ∷ l) e = elim (or_cases (p r) (some_is p l) e) [ inl a ↦ inl a | inr a ↦ inr (some-has l a) ]

  pub has_some : (l : List Rec) → Has p l → some_is p l ≡ true
  has_some [] h = absurd h
  has_some (r ∷ l) (inl e) = or_left (p r) (some_is p l) e
  has_some (r ∷ l) (inr h) = or_right (p r) (some_is p l) (has_some l h)

-- what passes one test passes another
module _ (p q : Rec → Bool) (f : (r : Rec) → p r ≡ true → q r ≡ true) where
  pub has-imp : (l : List Rec) → Has p l → Has q l
  has-imp [] h = h
  has-imp (r ∷ l) (inl e) = inl (f r e)
  has-imp (r ∷ l) (inr h) = inr (has-imp l h)

  pub log-imp : (l : LogState) → InLog p l → InLog q l
  log-imp l (inl h) = inl (has-imp l.safe h)
  log-imp l (inr h) = inr (has-imp l.loose h)

-- a party's own records
pub own_is : (k t s : ℕ) → is_own k t s (own_record t s k) ≡ true
own_is k t s =
    and_from (eqb k k) _ (eq-eqb k k refl) (and_from (eqb t t) (eqb (2 ^ s) (2 ^ s)) (eq-eqb t t refl) (eq-eqb (2 ^ s) (2 ^ s) refl))

pub fresh-own : (k t s : ℕ) (l : LogState) → Fresh t l → Without (is_own k t s) l
fresh-own k t s l f h =
    f (log-imp (is_own k t s) (of_transaction t) (λ r e. (and_parts _ _ (and_parts (eqb r.kind k) _ e).1).0) l h)

pub fresh-decision : (t : ℕ) (l : LogState) → Fresh t l → Without (is_decision t) l
fresh-decision t l f h =
    f (log-imp (is_decision t) (of_transaction t) (λ r e. (and_parts (eqb r.kind decision_kind) _ e).1) l h)
