-- The two lists of a table, of which the first b records count and the first a of these are safe.
use Rattle.std.proofs.Common.{◌≡◌, ℕ, ◌+◌, ◌-◌, ◌<◌, ◌≤◌, List, [], ◌∷◌, ◌++◌, length, get_or, take, drop, Some, None, sym, ap, ◌∙◌, arith, length-append, length-drop, take-append-drop, length-take}
use lib.ListN.{length-map}
use Rattle.std.proofs.lemmas.List.{length-take-le, length_push, take_all, drop_all, drop-take, take-take, take-append-le, drop-append-le, get_or-take}
use Rattle.std.proofs.lemmas.Option.{slice_get-get_or, slice_get_past}
use Rattle.std.specs.List.{slice_get}
use Rattle.records.specs.Recs.{Rec}
use Rattle.logs.specs.Tables.{safe_of, loose_of}

pub joined : (a b : ℕ) (xs : List Rec) → safe_of a b xs ++ loose_of a b xs ≡ take b xs
unfolding safe_of loose_of
joined a b xs = take-append-drop a (take b xs)

pub both : (a b : ℕ) (xs : List Rec) → b ≤ length xs → length (safe_of a b xs) + length (loose_of a b xs) ≡ b
both a b xs h =
    sym (length-append (safe_of a b xs) (loose_of a b xs)) ∙ ap length (joined a b xs) ∙ length-take-le b xs h

-- a table that gains a record in its next place
module _ (a b : ℕ) (xs ys : List Rec) (r : Rec) (grown : take (b + 1) ys ≡ take b xs ++ r ∷ []) (h : a ≤ b) (l : b ≤ length xs) where
  reaches : a ≤ length (take b xs)
  reaches = simp length-take (omega arith)

  pub safe_of-add : safe_of a (b + 1) ys ≡ safe_of a b xs
  unfolding safe_of
  safe_of-add = ap (take a) grown ∙ take-append-le a (take b xs) _ reaches

  pub loose_of-add : loose_of a (b + 1) ys ≡ loose_of a b xs ++ r ∷ []
  unfolding loose_of
  loose_of-add = ap (drop a) grown ∙ drop-append-le a (take b xs) _ reaches

-- a table of which all counts, and one record more
pub grown : (n : ℕ) (xs : List Rec) (r : Rec) → length xs ≡ n → take (n + 1) (xs ++ r ∷ []) ≡ take n xs ++ r ∷ []
grown n xs r e = take_all (n + 1) (xs ++ r ∷ []) (rw length_push (omega arith)) ∙ ap (λ (ys : List Rec). ys ++ r ∷ []) (sym (take_all n xs (omega arith)))

pub safe_of-all : (a b : ℕ) (xs : List Rec) → safe_of b b xs ≡ safe_of a b xs ++ loose_of a b xs
unfolding safe_of
safe_of-all a b xs = take-take b b xs (omega arith) ∙ sym (joined a b xs)

-- the same from right to left, as the tactics read it
pub all-safe_of : (a b : ℕ) (xs : List Rec) → safe_of a b xs ++ loose_of a b xs ≡ safe_of b b xs
all-safe_of a b xs = sym (safe_of-all a b xs)

pub loose_of-none : (b : ℕ) (xs : List Rec) → loose_of b b xs ≡ []
unfolding loose_of
loose_of-none b xs = drop_all b (take b xs) (simp length-take (omega arith))

-- a table that is cut off behind its safe records
pub safe_of-kept : (b : ℕ) (xs : List Rec) → safe_of b b (take b xs) ≡ safe_of b b xs
unfolding safe_of
safe_of-kept b xs = ap (take b) (take-take b b xs (omega arith))

pub read-in : (a b : ℕ) (xs : List Rec) (i : ℕ) (d : Rec) → i < b → b ≤ length xs → Some (get_or xs i d) ≡ slice_get (safe_of a b xs ++ loose_of a b xs) i
read-in a b xs i d h l =
    let m : i < length (take b xs) = simp length-take (omega arith) in
    sym (ap (λ (s : List Rec). slice_get s i) (joined a b xs) ∙ slice_get-get_or (take b xs) i d m ∙ ap Some (get_or-take b xs i d h))

pub read_past : (a b : ℕ) (xs : List Rec) (i : ℕ) → b ≤ i → None ≡ slice_get (safe_of a b xs ++ loose_of a b xs) i
read_past a b xs i h =
    let m : length (take b xs) ≤ i = simp length-take (omega arith) in
    sym (ap (λ (s : List Rec). slice_get s i) (joined a b xs) ∙ slice_get_past (take b xs) i m)

pub loose_of-length : (a b : ℕ) (xs : List Rec) → b ≤ length xs → length (loose_of a b xs) ≡ b - a
unfolding loose_of
loose_of-length a b xs h = simp (length-drop, length-take) (omega arith)

pub safe_of-part : (a b k : ℕ) (xs : List Rec) → a + k ≤ b → safe_of (a + k) (a + k) xs ≡ safe_of a b xs ++ take k (loose_of a b xs)
unfolding safe_of loose_of
safe_of-part a b k xs h =
    let m : List Rec = xs in
    let whole : take a (take b m) ++ take k (drop a (take b m)) ≡ take (a + k) m =
    ap (λ (s : List Rec). s ++ take k (drop a (take b m))) (sym (take-take a (a + k) (take b m) (omega arith)))
    ∙ ap (λ (s : List Rec). take a (take (a + k) (take b m)) ++ s) (sym (drop-take a k (take b m)))
    ∙ take-append-drop a (take (a + k) (take b m))
    ∙ take-take (a + k) b m h in
    take-take (a + k) (a + k) m (omega arith) ∙ sym whole

-- the same from right to left
pub part-safe_of : (a b k : ℕ) (xs : List Rec) → a + k ≤ b → safe_of a b xs ++ take k (loose_of a b xs) ≡ safe_of (a + k) (a + k) xs
part-safe_of a b k xs h = sym (safe_of-part a b k xs h)

-- what the check is to try at the goals on tables
pub ruleset tables = (both, all-safe_of, part-safe_of, safe_of-kept, loose_of-none, loose_of-length, read-in, read_past, length-map)
