-- Telling one byte, nothing, and one list behind another.
use Rattle.std.proofs.Common.{◌≡◌, ℕ, zero, suc, ◌+◌, ◌<◌, List, [], ◌∷◌, ◌++◌, length, take, drop, min, refl, sym, ap, ◌∙◌, arith, append_assoc, length-append, slice_set, add-one}
use Rattle.std.proofs.lemmas.List.{drop-drop, take-append-drop, length-take}
use Rattle.measured.specs.Sinks.{told, left, Tells, written}
use Rattle.measured.specs.declared.sink.Sink.{Sink}

take-nothing : (n : ℕ) → take {A = ℕ} n [] ≡ []
take-nothing zero = refl
take-nothing (suc n) = refl

-- what finds a place of two lists in a row
take-both : (r xs ys : List ℕ) → take (length r) (xs ++ ys) ≡ take (length r) xs ++ take (length (drop (length xs) r)) ys
take-both r [] ys = rw (take-nothing (length r)) refl
take-both [] (x ∷ xs) ys = refl
take-both (b ∷ r) (x ∷ xs) ys = ap (λ (l : List ℕ). x ∷ l) (take-both r xs ys)

drop-both : (r xs ys : List ℕ) → drop (length (xs ++ ys)) r ≡ drop (length ys) (drop (length xs) r)
drop-both r xs ys = rw (length-append xs ys) (sym (drop-drop (length ys) (length xs) r))

put-told : (b : List ℕ) (a x : ℕ) → a < length b → take (suc a) (slice_set b a x) ≡ take a b ++ take (length (drop a b)) (x ∷ [])
put-told [] a x h = absurd (omega arith)
put-told (y ∷ b) zero x h = ap (λ (l : List ℕ). x ∷ l) (sym (take-nothing (length b)))
put-told (y ∷ b) (suc a) x h = ap (λ (l : List ℕ). y ∷ l) (put-told b a x (omega arith))

put-left : (b : List ℕ) (a x : ℕ) → drop (suc a) (slice_set b a x) ≡ drop 1 (drop a b)
put-left [] zero x = refl
put-left [] (suc a) x = refl
put-left (y ∷ b) zero x = refl
put-left (y ∷ b) (suc a) x = put-left b a x

pub tells-put : (s t : Sink) (x : ℕ) → s.at < length s.out.now → t.at ≡ s.at + 1 → t.out.now ≡ slice_set s.out.now s.at x → t.out.ghost_name ≡ s.out.ghost_name → Tells s (x ∷ []) t
tells-put s t x h a o r = record {
  told = rw (a, o, add-one) (put-told s.out.now s.at x h);
  left = rw (a, o, add-one) (put-left s.out.now s.at x);
  same_reference = r;
}

pub tells-more : (s t u : Sink) (xs ys : List ℕ) → Tells s xs t → Tells t ys u → Tells s (xs ++ ys) u
tells-more s t u xs ys p q = record {
  told = q.told ∙ rw (p.told, p.left, take-both (left s) xs ys) (append_assoc (told s) (take (length (left s)) xs) (take (length (drop (length xs) (left s))) ys));
  left = q.left ∙ rw (p.left) (sym (drop-both (left s) xs ys));
  same_reference = q.same_reference ∙ p.same_reference;
}

-- what the buffer holds at the end, of a sink that began as a new one
pub written-all : (s t : Sink) (xs bs : List ℕ) → told s ≡ [] → left s ≡ bs → Tells s xs t → t.out.now ≡ written xs bs
written-all s t xs bs e l h =
    sym (take-append-drop t.at t.out.now) ∙ rw (h.told, h.left, e, l) refl

pub count-all : (s t : Sink) (xs bs : List ℕ) → told s ≡ [] → left s ≡ bs → Tells s xs t → length (told t) ≡ min (length bs) (length xs)
count-all s t xs bs e l h = rw (h.told, e, l) (length-take (length bs) xs)
