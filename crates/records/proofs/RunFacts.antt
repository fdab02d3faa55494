-- Facts on a loop from run to run of a set of seats, which is the bits of a number.
use Rattle.std.proofs.Common.{◌≡◌, ℕ, zero, suc, ◌+◌, ◌-◌, ◌/◌, ◌%◌, ◌^◌, ◌<◌, ◌≤◌, Bool, true, false, eqb, leb, ◌⊎◌, List, [], ◌∷◌, ◌++◌, sym, ap, subst, ◌∙◌, inl, inr, arith, shr-shr}
use Rattle.std.specs.Int.{bit_at, w32, trailing_zeros, trailing_ones}
use Rattle.std.proofs.lemmas.Nat.{shr_le}
use Rattle.std.proofs.lemmas.Nat.Bits.{bit_at_lowest, bit_at-zero, bit_at-trailing_zeros, bit_at-trailing_ones, bit_at_above}
use Rattle.std.proofs.lemmas.Bool.Decides.{leb_tells}
use Rattle.seats.specs.Sets.{member}
use Rattle.records.specs.Pairs.{pair, covers, parted}
use Rattle.records.specs.declared.ranges.Pair.{Pair}
use Rattle.records.proofs.PairFacts.{Cut, cut_in, cut_out, cut-shut, covers-after, clash}

-- the next g seats are not in f, and no run is width
pub cut-skip : (f : ℕ → Bool) (n k g : ℕ) (ps : List Pair) → parted 0 n ps ≡ true → Cut f n k 0 ps → k + g ≤ n + 1 → ((i : ℕ) → i < g → f (k + i) ≡ false) → Cut f n (k + g) 0 ps
cut-skip f n k zero ps P c l y = let e : k + zero ≡ k = omega arith in rw e c
cut-skip f n k (suc g) ps P c l y =
    let e : k + suc g ≡ k + g + 1 = omega arith in
    rw e (cut_out f n (k + g) ps P (cut-skip f n k g ps P c (omega arith) (λ i h. y i (omega arith))) (omega arith) (λ _. y g (omega arith)))

-- the next w seats are
pub cut-take : (f : ℕ → Bool) (n k w : ℕ) (ps : List Pair) → Cut f n k 0 ps → k + w ≤ n → ((i : ℕ) → i < w → f (k + i) ≡ true) → Cut f n (k + w) w ps
cut-take f n k zero ps c l y = let e : k + zero ≡ k = omega arith in rw e c
cut-take f n k (suc w) ps c l y =
    let e : k + suc w ≡ k + w + 1 = omega arith in
    let d : suc w ≡ w + 1 = omega arith in
    rw (e, d) (cut_in f n (k + w) w ps (cut-take f n k w ps c (omega arith) (λ i h. y i (omega arith))) (omega arith) (y w (omega arith)))

-- g seats that are not in f, w that are, and one that is not or none
pub cut-run : (f : ℕ → Bool) (n k g w : ℕ) (ps : List Pair) → parted 0 n ps ≡ true → Cut f n k 0 ps → 0 < w → k + g + w ≤ n
    → ((i : ℕ) → i < g → f (k + i) ≡ false) → ((i : ℕ) → i < w → f (k + g + i) ≡ true) → f (k + g + w) ≡ false
    → Cut f n (k + g + w + 1) 0 (ps ++ pair (k + g) w ∷ [])
cut-run f n k g w ps P c o l y z x =
    let e : k + g + w - w ≡ k + g = omega arith in
    subst (λ (a : ℕ). Cut f n (k + g + w + 1) 0 (ps ++ pair a w ∷ [])) e (cut-shut f n (k + g + w) w ps P (cut-take f n (k + g) w ps (cut-skip f n k g ps P c (omega arith) y) l z) o l (λ _. x))

-- where nothing is left from seat k up, every run is found
pub cut-end : (f : ℕ → Bool) (n k : ℕ) (ps : List Pair) → parted 0 n ps ≡ true → Cut f n k 0 ps → ((j : ℕ) → k ≤ j → f j ≡ false) → (j : ℕ) → j < n → covers ps j ≡ f j
cut-end f n k ps P c y j l = at (leb_tells k j)
  where
    at : ((leb k j ≡ true) × (k ≤ j)) ⊎ ((leb k j ≡ false) × (j < k)) → covers ps j ≡ f j
    at (inl h) =
        let m : k ≤ j = h.1 in
        let b = c.before in
        covers-after 0 n ps j P (omega arith) ∙ sym (y j m)
    at (inr h) = let m : j < k = h.1 in c.done j (omega arith) l

-- ---- the seats from k up, as a number of their own

pub member-down : (b k i : ℕ) → member (b / 2 ^ k) i ≡ member b (k + i)
member-down b k i = ap (λ (m : ℕ). eqb (m % 2) 1) (shr-shr b k i)

pub member-one : (n i : ℕ) → bit_at n i ≡ 1 → member n i ≡ true
member-one n i e = ap (λ (m : ℕ). eqb m 1) e

pub member-zero : (n i : ℕ) → bit_at n i ≡ 0 → member n i ≡ false
member-zero n i e = ap (λ (m : ℕ). eqb m 1) e

-- a run of the set b: g seats from k up that are not in it, w that are, and one that is not
pub record Run (b k g w : ℕ) : Type 0 where
  pub some : 0 < w
  pub within : k + g + w ≤ 16
  pub gap : (i : ℕ) → i < g → member b (k + i) ≡ false
  pub seats : (i : ℕ) → i < w → member b (k + g + i) ≡ true
  pub end : member b (k + g + w) ≡ false

low-one : (m w : ℕ) → bit_at m w ≡ 0 → m % 2 ≡ 1 → 0 < w
low-one m zero z o = let e = bit_at_lowest m in let no : ⊥ = omega arith in absurd no
low-one m (suc w) z o = omega arith

-- the last seat of a run is one of the sixteen
last-seat : (b j : ℕ) → b < 2 ^ 16 → member b j ≡ true → j < 16
last-seat b j s y = at (leb_tells 16 j)
  where
    at : ((leb 16 j ≡ true) × (16 ≤ j)) ⊎ ((leb 16 j ≡ false) × (j < 16)) → j < 16
    at (inl h) = clash (member b j) y (member-zero b j (bit_at_above b 16 j s h.1))
    at (inr h) = h.1

pub run : (b k l : ℕ) → b < 2 ^ 16 → l ≡ b / 2 ^ k → 0 < l → Run b k (trailing_zeros w32 l) (trailing_ones w32 (l / 2 ^ trailing_zeros w32 l))
run b k l s e o = record {
  some = positive;
  within = let p = positive in let h : k + g + (w - 1) < 16 = last-seat b (k + g + (w - 1)) s (on (w - 1) (omega arith)) in omega arith;
  gap = λ i h. down i ∙ member-zero l i (z.2 i h);
  seats = on;
  end = far w ∙ member-zero m w t.1;
}
  where
    g : ℕ
    g = trailing_zeros w32 l

    m : ℕ
    m = l / 2 ^ g

    w : ℕ
    w = trailing_ones w32 m

    small : l ≤ b
    small = rw e (shr_le b k)

    smaller : m ≤ l
    smaller = shr_le l g

    z : (g < 32) × (bit_at l g ≡ 1) × ((i : ℕ) → i < g → bit_at l i ≡ 0)
    z = bit_at-trailing_zeros w32 l o (let a = small in omega arith)

    t : (w < 32) × (bit_at m w ≡ 0) × ((i : ℕ) → i < w → bit_at m i ≡ 1)
    t = bit_at-trailing_ones w32 m (let a = small in let c = smaller in omega arith)

    down : (j : ℕ) → member b (k + j) ≡ member l j
    down j = sym (member-down b k j) ∙ ap (λ (x : ℕ). member x j) (sym e)

    far : (j : ℕ) → member b (k + g + j) ≡ member m j
    far j = let q : k + g + j ≡ k + (g + j) = omega arith in rw q (down (g + j) ∙ sym (member-down l g j))

    on : (i : ℕ) → i < w → member b (k + g + i) ≡ true
    on i h = far i ∙ member-one m i (t.2 i h)

    positive : 0 < w
    positive = low-one m w t.1 z.1

-- what is left behind a run
pub left-behind : (b k l g w : ℕ) → l ≡ b / 2 ^ k → l / 2 ^ g / 2 ^ w / 2 ≡ b / 2 ^ (k + g + w + 1)
left-behind b k l g w e =
    ap (λ (x : ℕ). x / 2 ^ g / 2 ^ w / 2) e ∙ ap (λ (x : ℕ). x / 2 ^ w / 2) (shr-shr b k g) ∙ ap (λ (x : ℕ). x / 2) (shr-shr b (k + g) w) ∙ shr-shr b (k + g + w) 1

-- where nothing is left, no seat is
pub none-left : (b k l : ℕ) → l ≡ b / 2 ^ k → l ≡ 0 → (j : ℕ) → k ≤ j → member b j ≡ false
none-left b k l e z j h =
    let q : j ≡ k + (j - k) = omega arith in
    rw q (sym (member-down b k (j - k)) ∙ ap (λ (x : ℕ). member x (j - k)) (sym e ∙ z) ∙ member-zero 0 (j - k) (bit_at-zero (j - k)))
