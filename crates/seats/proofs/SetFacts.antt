-- Facts on sets of seats as bits, for any number of seats.
use Rattle.std.proofs.Common.{◌≡◌, ℕ, zero, suc, ◌+◌, ◌-◌, ◌*◌, ◌/◌, ◌%◌, ◌^◌, ◌<◌, ◌≤◌, Bool, true, false, cond, ◌&&◌, ◌||◌, eqb, ltb, leb, ◌⊎◌, sym, refl, ap, ◌∙◌, ap₂, inl, inr, mod-lt, mod-eq_of_lt, mul_assoc, one-mul, pow-suc, add-one, arith, pow_pos, pow_mono, pow-add, shr-shr}
use native.Mathlib.Nat.{div-eq_of_lt}
use lib.Bits.{bit_or, or_shr, or_mod, shifted_even}
use lib.Count.{count_trailing_zeros}
use lib.Pow.{mod-pow-add, field, low, high, mod-mod-pow, shl-shr, ones_split, ones_lt}
use Rattle.std.proofs.lemmas.Bool.Decides.{nat_tests, leb_tells, eqb_tells}
use Rattle.seats.specs.Sets.{member, bits_of}

-- two sets with the same seats have the same bits
pub bits-ext : (n : ℕ) (f g : ℕ → Bool) → ((k : ℕ) → k < n → f k ≡ g k) → bits_of n f ≡ bits_of n g
unfolding bits_of
bits-ext zero f g e = refl
bits-ext (suc n) f g e = ap₂ (λ (x : ℕ) (b : Bool). x + cond b (2 ^ n) 0) (bits-ext n f g (λ k l. e k (omega arith))) (e n (omega arith))

pub bits_below : (n : ℕ) (f : ℕ → Bool) → bits_of n f < 2 ^ n
unfolding bits_of
bits_below zero f = omega arith
bits_below (suc n) f =
    let ih = bits_below n f in
    let p = pow-suc 2 n in
    elim (f n) as (λ b. bits_of n f + cond b (2 ^ n) 0 < 2 ^ suc n) [ true ↦ omega arith | false ↦ omega arith ]

-- the lowest digit, as a test
bit-value : (d m : ℕ) → d < 2 → cond (eqb d 1) m 0 ≡ d * m
bit-value zero m l = omega arith
bit-value (suc zero) m l = omega arith
bit-value (suc (suc d)) m l = let no : ⊥ = omega arith in absurd no

pub bits-member-mod : (n s : ℕ) → bits_of n (member s) ≡ s % 2 ^ n
unfolding bits_of
bits-member-mod zero s = let e : s % 1 < 1 = mod-lt s (omega arith) in omega arith
bits-member-mod (suc n) s =
    let ih = bits-member-mod n s in
    let d : s / 2 ^ n % 2 < 2 = mod-lt (s / 2 ^ n) (omega arith) in
    let v = bit-value (s / 2 ^ n % 2) (2 ^ n) d in
    let e = mod-pow-add s 1 n in
    let same : suc n ≡ 1 + n = omega arith in
    rw (same, e, v, ih) (omega arith)

pub bits-member : (n s : ℕ) → s < 2 ^ n → bits_of n (member s) ≡ s
bits-member n s l = bits-member-mod n s ∙ mod-eq_of_lt l

-- what stands above seat n changes no seat below it
member-mod : (n x k : ℕ) → k < n → member (x % 2 ^ n) k ≡ member x k
member-mod n x k l = at (n - k - 1) (omega arith)
  where
    at : (d : ℕ) → n ≡ d + 1 + k → member (x % 2 ^ n) k ≡ member x k
    at d e = rw (e, field x (d + 1) k) (ap (λ (m : ℕ). eqb m 1) (mod-mod-pow (x / 2 ^ k) d 1))

pub member-bits : (n : ℕ) (f : ℕ → Bool) (k : ℕ) → k < n → member (bits_of n f) k ≡ f k
unfolding bits_of
member-bits zero f k l = let no : ⊥ = omega arith in absurd no
member-bits (suc n) f k l = go (eqb_tells k n) (λ h. member-bits n f k h)
  where
    x : ℕ
    x = bits_of n f

    top : (b : Bool) → member (bits_of n f + cond b (2 ^ n) 0) n ≡ b
    top true =
        let e : bits_of n f + 2 ^ n ≡ 1 * 2 ^ n + bits_of n f = omega arith in
        rw (e, high 1 n (bits_below n f))
    top false =
        let e : bits_of n f + 0 ≡ 0 * 2 ^ n + bits_of n f = omega arith in
        rw (e, high 0 n (bits_below n f))

    below : (b : Bool) → k < n → member (bits_of n f + cond b (2 ^ n) 0) k ≡ member (bits_of n f) k
    below true h =
        let e : bits_of n f + 2 ^ n ≡ 1 * 2 ^ n + bits_of n f = omega arith in
        rw e (sym (member-mod n (1 * 2 ^ n + bits_of n f) k h) ∙ ap (λ m. member m k) (low 1 n (bits_below n f)))
    below false h =
        let e : bits_of n f + 0 ≡ bits_of n f = omega arith in
        rw e refl

    go : ((eqb k n ≡ true) × (k ≡ n)) ⊎ ((eqb k n ≡ false) × (k ≡ n → ⊥)) → (k < n → member (bits_of n f) k ≡ f k) → member (bits_of (suc n) f) k ≡ f k
    go (inl e) ih = rw e.1 (top (f n))
    go (inr e) ih = let ne : k ≡ n → ⊥ = e.1 in let h : k < n = omega arith in below (f n) h ∙ ih h

-- ---- a range of bits

or-digit : (d e : ℕ) → d < 2 → e < 2 → eqb (bit_or d e) 1 ≡ (eqb d 1 || eqb e 1)
or-digit zero zero l m = refl
or-digit zero (suc zero) l m = refl
or-digit (suc zero) zero l m = refl
or-digit (suc zero) (suc zero) l m = refl
or-digit (suc (suc d)) e l m = let no : ⊥ = omega arith in absurd no
or-digit zero (suc (suc e)) l m = let no : ⊥ = omega arith in absurd no
or-digit (suc zero) (suc (suc e)) l m = let no : ⊥ = omega arith in absurd no

pub member-or : (a b k : ℕ) → member (bit_or a b) k ≡ (member a k || member b k)
member-or a b k =
    ap (λ (m : ℕ). eqb (m % 2) 1) (or_shr a b k) ∙ ap (λ (m : ℕ). eqb m 1) (or_mod (a / 2 ^ k) (b / 2 ^ k) 1)
    ∙ or-digit (a / 2 ^ k % 2) (b / 2 ^ k % 2) (mod-lt (a / 2 ^ k) (omega arith)) (mod-lt (b / 2 ^ k) (omega arith))

-- a number of l ones
ones_in : (d j : ℕ) → member (2 ^ (d + 1 + j) - 1) j ≡ true
ones_in d j = rw (ones_split (d + 1) j, high (2 ^ (d + 1) - 1) j (ones_lt j), ones_split d 1, low (2 ^ d - 1) 1 (ones_lt 1))

pub ones-out : (l j : ℕ) → l ≤ j → member (2 ^ l - 1) j ≡ false
ones-out l j h =
    let m : 2 ^ l ≤ 2 ^ j = pow_mono h in
    let p = pow_pos l in
    let s : 2 ^ l - 1 < 2 ^ j = omega arith in
    rw (div-eq_of_lt s)

pub member-ones : (l k : ℕ) → member (2 ^ l - 1) k ≡ ltb k l
member-ones l k = go (leb_tells (suc k) l)
  where
    go : ((leb (suc k) l ≡ true) × (suc k ≤ l)) ⊎ ((leb (suc k) l ≡ false) × (l < suc k)) → member (2 ^ l - 1) k ≡ ltb k l
    go (inl y) =
        let h : suc k ≤ l = y.1 in
        let e : l - k - 1 + 1 + k ≡ l = omega arith in
        (rw e at (ones_in (l - k - 1) k)) ∙ sym y.0
    go (inr y) = ones-out l k (let h : l < suc k = y.1 in omega arith) ∙ sym y.0

-- the seats below o of a number that is shifted by o
shifted-low : (x d k : ℕ) → member (x * 2 ^ (d + 1 + k)) k ≡ false
shifted-low x d k =
    let e : x * 2 ^ (d + 1 + k) ≡ x * 2 ^ suc d * 2 ^ k = ap (λ (m : ℕ). x * m) (pow-add 2 (d + 1) k) ∙ sym (mul_assoc x (2 ^ (d + 1)) (2 ^ k)) ∙ ap (λ (m : ℕ). x * 2 ^ m * 2 ^ k) (add-one d) in
    rw (e, shl-shr (x * 2 ^ suc d) k, shifted_even x d)

shifted-high : (x o j : ℕ) → member (x * 2 ^ o) (o + j) ≡ member x j
shifted-high x o j = ap (λ (m : ℕ). eqb (m % 2) 1) (sym (shr-shr (x * 2 ^ o) o j) ∙ ap (λ (m : ℕ). m / 2 ^ j) (shl-shr x o))

pub member-range : (o l k : ℕ) → member ((2 ^ l - 1) * 2 ^ o) k ≡ (leb o k && ltb k (o + l))
member-range o l k = go (leb_tells o k)
  where
    go : ((leb o k ≡ true) × (o ≤ k)) ⊎ ((leb o k ≡ false) × (k < o)) → member ((2 ^ l - 1) * 2 ^ o) k ≡ (leb o k && ltb k (o + l))
    go (inl y) =
        let h : o ≤ k = y.1 in
        let e : o + (k - o) ≡ k = omega arith in
        let s : member ((2 ^ l - 1) * 2 ^ o) k ≡ ltb (k - o) l = (rw e at (shifted-high (2 ^ l - 1) o (k - o))) ∙ member-ones l (k - o) in
        let t : leb o k ≡ true = y.0 in
        s ∙ grind (arith, nat_tests)
    go (inr y) =
        let h : k < o = y.1 in
        let e : o - k - 1 + 1 + k ≡ o = omega arith in
        let s : member ((2 ^ l - 1) * 2 ^ o) k ≡ false = rw e at (shifted-low (2 ^ l - 1) (o - k - 1) k) in
        let t : leb o k ≡ false = y.0 in
        s ∙ grind (arith, nat_tests)

-- two sets of seats below n with the same seats
pub same_bits : (n s : ℕ) (f : ℕ → Bool) → s < 2 ^ n → ((k : ℕ) → k < n → member s k ≡ f k) → s ≡ bits_of n f
same_bits n s f l e = sym (bits-member n s l) ∙ bits-ext n (member s) f e

-- ---- one seat

pub member-one : (v k : ℕ) → member (2 ^ v) k ≡ eqb k v
member-one v k =
    let e : member (2 ^ v) k ≡ (leb v k && ltb k (v + 1)) = rw (one-mul (2 ^ v)) at (member-range v 1 k) in
    e ∙ grind (arith, nat_tests)

pub or_swap : (x y : Bool) → (x || y) ≡ (y || x)
or_swap true true = refl
or_swap true false = refl
or_swap false true = refl
or_swap false false = refl

pub pow-same : (v w : ℕ) → 2 ^ v ≡ 2 ^ w → v ≡ w
pow-same v w e =
    let a : eqb v v ≡ eqb v w = sym (member-one v v) ∙ ap (λ (n : ℕ). member n v) e ∙ member-one w v in
    grind (arith, nat_tests)

-- no seat at or past the width
pub member-high : (w n k : ℕ) → n < 2 ^ w → w ≤ k → member n k ≡ false
member-high w n k h l = let m : 2 ^ w ≤ 2 ^ k = pow_mono l in let s : n < 2 ^ k = omega arith in rw (div-eq_of_lt s)

even-zeros : (w n : ℕ) → n % 2 ≡ 0 → count_trailing_zeros (suc w) n ≡ suc (count_trailing_zeros w (n / 2))
unfolding count_trailing_zeros
even-zeros w n e = rw e

-- the lowest seat of a set of one is that one
pub lowest-one : (w v : ℕ) → v < w → count_trailing_zeros w (2 ^ v) ≡ v
unfolding count_trailing_zeros
lowest-one zero v h = let no : ⊥ = omega arith in absurd no
lowest-one (suc w) zero h = refl
lowest-one (suc w) (suc v) h =
    let p = pow-suc 2 v in
    let d : 2 ^ suc v % 2 ≡ 0 = omega arith in
    let q : 2 ^ suc v / 2 ≡ 2 ^ v = omega arith in
    even-zeros w (2 ^ suc v) d ∙ ap (λ (n : ℕ). suc (count_trailing_zeros w n)) q ∙ ap suc (lowest-one w v (omega arith))
