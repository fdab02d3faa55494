-- Facts on the places that pairs are written to, for any number of places.
use Rattle.std.proofs.Common.{◌≡◌, ℕ, zero, suc, ◌+◌, ◌*◌, ◌<◌, ◌≤◌, true, List, [], ◌∷◌, ◌++◌, length, get_or, take, drop, set, refl, ap, ◌∙◌, ap₂, arith}
use Rattle.std.proofs.lemmas.List.{get_or-drop, take_more, length-take-le}
use Rattle.std.specs.Simd.{first_chunks}
use Rattle.records.specs.Pairs.{pair, parted, after, padded, pairs_in}
use Rattle.records.specs.declared.ranges.Pair.{Pair}
use Rattle.records.proofs.PairFacts.{First, first}

pub length-padded : (m : ℕ) (ps : List Pair) → length (padded m ps) ≡ 2 * m
length-padded zero ps = omega arith
length-padded (suc m) [] = let ih = length-padded m [] in omega arith
length-padded (suc m) (p ∷ ps) = let ih = length-padded m ps in omega arith

pub length-pairs_in : (c : ℕ) (bs : List ℕ) → length (pairs_in c bs) ≡ c
length-pairs_in zero bs = refl
length-pairs_in (suc c) bs = ap suc (length-pairs_in c (drop 2 bs))

-- one pair more, at its place
pub padded-push : (m : ℕ) (ps : List Pair) (q : Pair) → length ps < m → set (set (padded m ps) (2 * length ps) q.offset) (2 * length ps + 1) q.length ≡ padded m (ps ++ q ∷ [])
padded-push zero ps q l = let no : ⊥ = omega arith in absurd no
padded-push (suc m) [] q l = refl
padded-push (suc m) (p ∷ ps) q l =
    let e : 2 * suc (length ps) ≡ suc (suc (2 * length ps)) = omega arith in
    let f : suc (suc (2 * length ps)) + 1 ≡ suc (suc (2 * length ps + 1)) = omega arith in
    rw (e, f) (ap (λ (r : List ℕ). p.offset ∷ (p.length ∷ r)) (padded-push m ps q (omega arith)))

pub padded-more : (m : ℕ) (ps : List Pair) (i : ℕ) (d : Pair) → i < m → i < length ps
    → set (set (padded m (take i ps)) (2 * i) (get_or ps i d).offset) (2 * i + 1) (get_or ps i d).length ≡ padded m (take (i + 1) ps)
padded-more m ps i d l h =
    let n : length (take i ps) ≡ i = length-take-le i ps (omega arith) in
    rw (take_more ps i d h) (rw n at (padded-push m (take i ps) (get_or ps i d) (omega arith)))

-- places past the last pair are zero
pub padded-zero : (m : ℕ) (ps : List Pair) (k : ℕ) → 2 * length ps ≤ k → get_or (padded m ps) k 0 ≡ 0
padded-zero zero ps k l = refl
padded-zero (suc m) [] zero l = refl
padded-zero (suc m) [] (suc zero) l = refl
padded-zero (suc m) [] (suc (suc k)) l = padded-zero m [] k (omega arith)
padded-zero (suc m) (p ∷ ps) zero l = let no : ⊥ = omega arith in absurd no
padded-zero (suc m) (p ∷ ps) (suc zero) l = let no : ⊥ = omega arith in absurd no
padded-zero (suc m) (p ∷ ps) (suc (suc k)) l = padded-zero m ps k (omega arith)

-- what is written is read
pub pairs_in-padded : (m : ℕ) (ps : List Pair) → length ps ≤ m → pairs_in (length ps) (padded m ps) ≡ ps
pairs_in-padded m [] l = refl
pairs_in-padded zero (p ∷ ps) l = let no : ⊥ = omega arith in absurd no
pairs_in-padded (suc m) (p ∷ ps) l = ap (λ (r : List Pair). p ∷ r) (pairs_in-padded m ps (omega arith))

-- and what is read was written, if the rest is zero
pub padded-pairs_in : (m c : ℕ) (bs : List ℕ) → length bs ≡ 2 * m → c ≤ m → ((k : ℕ) → 2 * c ≤ k → k < 2 * m → get_or bs k 0 ≡ 0) → bs ≡ padded m (pairs_in c bs)
padded-pairs_in zero c [] e l z = refl
padded-pairs_in zero c (x ∷ bs) e l z = let no : ⊥ = omega arith in absurd no
padded-pairs_in (suc m) c [] e l z = let no : ⊥ = omega arith in absurd no
padded-pairs_in (suc m) c (x ∷ []) e l z = let no : ⊥ = omega arith in absurd no
padded-pairs_in (suc m) zero (x ∷ (y ∷ bs)) e l z =
    let a : x ≡ 0 = z 0 (omega arith) (omega arith) in
    let b : y ≡ 0 = z 1 (omega arith) (omega arith) in
    let ih : bs ≡ padded m [] = padded-pairs_in m zero bs (omega arith) (omega arith) (λ k h u. z (suc (suc k)) (omega arith) (omega arith)) in
    cc
padded-pairs_in (suc m) (suc c) (x ∷ (y ∷ bs)) e l z =
    ap (λ (r : List ℕ). x ∷ (y ∷ r)) (padded-pairs_in m c bs (omega arith) (omega arith) (λ k h u. z (suc (suc k)) (omega arith) (omega arith)))

-- the pair at place i, among the first c
pub pairs_in-split : (i c : ℕ) (bs : List ℕ) → i < c → (qs : List Pair) × (pairs_in c bs ≡ pairs_in i bs ++ pair (get_or bs (2 * i) 0) (get_or bs (2 * i + 1) 0) ∷ qs)
pairs_in-split i zero bs l = let no : ⊥ = omega arith in absurd no
pairs_in-split zero (suc c) bs l = (pairs_in c (drop 2 bs), refl)
pairs_in-split (suc i) (suc c) bs l =
    let r = pairs_in-split i c (drop 2 bs) (omega arith) in
    let e : 2 + 2 * i ≡ 2 * suc i = omega arith in
    let f : 2 + (2 * i + 1) ≡ 2 * suc i + 1 = omega arith in
    let a : get_or (drop 2 bs) (2 * i) 0 ≡ get_or bs (2 * suc i) 0 = get_or-drop 2 bs (2 * i) 0 ∙ ap (λ (n : ℕ). get_or bs n 0) e in
    let b : get_or (drop 2 bs) (2 * i + 1) 0 ≡ get_or bs (2 * suc i + 1) 0 = get_or-drop 2 bs (2 * i + 1) 0 ∙ ap (λ (n : ℕ). get_or bs n 0) f in
    (r.0, ap (λ (t : List Pair). pair (get_or bs 0 0) (get_or bs 1 0) ∷ t) (r.1 ∙ ap₂ (λ (u v : ℕ). pairs_in i (drop 2 bs) ++ pair u v ∷ r.0) a b))

pub pairs_in-more : (i : ℕ) (bs : List ℕ) → pairs_in (i + 1) bs ≡ pairs_in i bs ++ pair (get_or bs (2 * i) 0) (get_or bs (2 * i + 1) 0) ∷ []
pairs_in-more zero bs = refl
pairs_in-more (suc i) bs =
    let s : suc i + 1 ≡ suc (i + 1) = omega arith in
    let e : 2 + 2 * i ≡ 2 * suc i = omega arith in
    let f : 2 + (2 * i + 1) ≡ 2 * suc i + 1 = omega arith in
    let a : get_or (drop 2 bs) (2 * i) 0 ≡ get_or bs (2 * suc i) 0 = get_or-drop 2 bs (2 * i) 0 ∙ ap (λ (n : ℕ). get_or bs n 0) e in
    let b : get_or (drop 2 bs) (2 * i + 1) 0 ≡ get_or bs (2 * suc i + 1) 0 = get_or-drop 2 bs (2 * i + 1) 0 ∙ ap (λ (n : ℕ). get_or bs n 0) f in
    rw s (ap (λ (t : List Pair). pair (get_or bs 0 0) (get_or bs 1 0) ∷ t) (pairs_in-more i (drop 2 bs) ∙ ap₂ (λ (u v : ℕ). pairs_in i (drop 2 bs) ++ pair u v ∷ []) a b))

-- a pair in the middle of parted ranges follows those before it
pub parted-mid : (a n : ℕ) (ps : List Pair) (q : Pair) (qs : List Pair) → parted a n (ps ++ q ∷ qs) ≡ true → First (after a ps) n q qs
parted-mid a n [] q qs h = first a n q qs h
parted-mid a n (p ∷ ps) q qs h = parted-mid (p.offset + p.length + 1) n ps q qs (first a n p (ps ++ q ∷ qs) h).rest

-- the two bytes of chunk i
pub chunk-at : (n i : ℕ) (bs : List ℕ) → i < n → 2 * n ≤ length bs → get_or (first_chunks 2 n bs) i [] ≡ get_or bs (2 * i) 0 ∷ (get_or bs (2 * i + 1) 0 ∷ [])
chunk-at zero i bs l h = let no : ⊥ = omega arith in absurd no
chunk-at (suc n) i [] l h = let no : ⊥ = omega arith in absurd no
chunk-at (suc n) i (x ∷ []) l h = let no : ⊥ = omega arith in absurd no
chunk-at (suc n) zero (x ∷ (y ∷ bs)) l h = refl
chunk-at (suc n) (suc i) (x ∷ (y ∷ bs)) l h =
    let e : 2 * suc i ≡ suc (suc (2 * i)) = omega arith in
    let f : suc (suc (2 * i)) + 1 ≡ suc (suc (2 * i + 1)) = omega arith in
    rw (e, f) (chunk-at n i bs (omega arith) (omega arith))
