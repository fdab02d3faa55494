-- Records that are held back over a log.
use Rattle.std.proofs.Common.{◌≡◌, ℕ, ◌+◌, ◌-◌, ◌<◌, ◌≤◌, List, [], ◌∷◌, ◌++◌, map, length, get_or, take, set, Some, sym, refl, ap, ◌∙◌, ⊎_elim, arith, length-append, length-take}
use lib.ListN.{length-map}
use Rattle.std.proofs.lemmas.List.{append-nil, append_assoc, take_all, take-append-le, take_more_set, map_more, map_push, get_or_append_left, get_or-append_right}
use Rattle.std.proofs.lemmas.Option.{slice_get-get_or, slice_get_past}
use Rattle.std.proofs.lemmas.Bool.{cases_lt}
use Rattle.std.specs.List.{slice_get}
use Rattle.records.specs.Recs.{Rec, model_of}
use Rattle.logs.specs.Gathering.{first_of}
use Rattle.records.specs.declared.record.Record.{Record}

pub first_of-none : (xs : List Record) → first_of 0 xs ≡ []
unfolding first_of
first_of-none xs = refl

pub held-none : (l : List Rec) (xs : List Record) → l ++ first_of 0 xs ≡ l
unfolding first_of
held-none l xs = append-nil l

pub first_of-more : (xs : List Record) (i : ℕ) (d : Record) → i < length xs → first_of (i + 1) xs ≡ first_of i xs ++ model_of (get_or xs i d) ∷ []
unfolding first_of
first_of-more xs i d h = map_more model_of xs i d h

pub first_of-set : (xs : List Record) (i : ℕ) (r : Record) → i < length xs → first_of (i + 1) (set xs i r) ≡ first_of i xs ++ model_of r ∷ []
unfolding first_of
first_of-set xs i r h = ap (map model_of) (take_more_set xs i r h) ∙ map_push model_of (take i xs) r

pub first_of-length : (n : ℕ) (xs : List Record) → n ≤ length xs → length (first_of n xs) ≡ n
unfolding first_of
first_of-length n xs h = simp (length-map, length-take) (omega arith)

pub first_of-all : (n : ℕ) (xs : List Record) → length xs ≡ n → first_of n xs ≡ map model_of xs
unfolding first_of
first_of-all n xs e = ap (map model_of) (take_all n xs (omega arith))

blank : Rec
blank = record { transaction = 0; kind = 0; seats = 0 }

pub read_below : (s l xs : List Rec) (i : ℕ) → i < length s + length l → slice_get (s ++ l) i ≡ slice_get (s ++ (l ++ xs)) i
read_below s l xs i h =
    let m : i < length (s ++ l) = simp length-append (omega arith) in
    let n : i < length ((s ++ l) ++ xs) = simp length-append (omega arith) in
    slice_get-get_or (s ++ l) i blank m
    ∙ sym (ap (λ (z : List Rec). slice_get z i) (sym (append_assoc s l xs)) ∙ slice_get-get_or ((s ++ l) ++ xs) i blank n ∙ ap Some (get_or_append_left (s ++ l) xs blank i m))

behind : (xs ys : List Rec) (n i : ℕ) → length xs ≡ n → n ≤ i → slice_get ys (i - n) ≡ slice_get (xs ++ ys) i
behind xs ys n i e h =
    ⊎_elim
    (λ (l : i - n < length ys).
    let m : i < length (xs ++ ys) = simp length-append (omega arith) in
    slice_get-get_or ys (i - n) blank l ∙ ap Some (sym (get_or-append_right xs ys n i blank e h)) ∙ sym (slice_get-get_or (xs ++ ys) i blank m))
    (λ (l : length ys ≤ i - n). slice_get_past ys (i - n) l ∙ sym (slice_get_past (xs ++ ys) i (simp length-append (omega arith))))
    (cases_lt (i - n) (length ys))

pub read_above : (s l xs : List Rec) (i : ℕ) → length s + length l ≤ i → slice_get xs (i - (length s + length l)) ≡ slice_get (s ++ (l ++ xs)) i
read_above s l xs i h = behind (s ++ l) xs (length s + length l) i (length-append s l) h ∙ ap (λ (z : List Rec). slice_get z i) (append_assoc s l xs)

pub kept-part : (k : ℕ) (l xs : List Rec) → k ≤ length l → take k l ≡ take k (l ++ xs)
kept-part k l xs h = sym (take-append-le k l xs h)

-- what the check is to try at the goals on held records
pub ruleset gathering = (first_of-none, held-none, first_of-more, first_of-set, first_of-all, first_of-length, kept-part)
