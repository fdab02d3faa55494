-- How `Exactly` is shown and used.
use Rattle.std.proofs.Common.{◌≡◌, ℕ, Some, None, refl, subst, arith}
use Rattle.seats.specs.Exactly.{Exactly}

module _ {A : Type 0} where
  -- the one value that has the property
  pub exactly-some : (P : A → Type 0) (a : A) → P a → ((x : A) → P x → a ≡ x) → Exactly P (Some a)
  exactly-some P a p one x = (λ q. let e : a ≡ x = cc in subst P e p, λ q. let e : a ≡ x = one x q in cc)

  -- nothing has it
  pub exactly-none : (P : A → Type 0) → ((x : A) → P x → ⊥) → Exactly P None
  exactly-none P never x = (λ q. let z : ◌≡◌ {A = ℕ} 0 1 = cc in let no : ⊥ = omega arith in absurd no, λ q. absurd (never x q))

  pub exactly-has : (P : A → Type 0) (a : A) → Exactly P (Some a) → P a
  exactly-has P a h = (h a).0 refl

  pub exactly-never : (P : A → Type 0) → Exactly P None → (x : A) → P x → ⊥
  exactly-never P h x p = let e = (h x).1 p in let z : ◌≡◌ {A = ℕ} 0 1 = cc in omega arith
