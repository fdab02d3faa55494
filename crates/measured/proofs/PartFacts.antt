-- The parts of bytes, one after the other, and what they say.
use Rattle.std.proofs.Common.{◌≡◌, ℕ, ◌<◌, List, [], ◌∷◌, ◌++◌, length, take, drop, Some, None, Option, refl, sym, ap, subst, ◌∙◌, arith, append_assoc, length-append}
use Rattle.std.proofs.lemmas.List.{append-nil}
use Rattle.std.proofs.Math.Seq.{take-append_seam, drop-append_seam}
use Rattle.std.specs.Slice.Iter.{chunks_exact_steps}
use Rattle.std.specs.declared.slice.ChunksExact.{ChunksExact}
use denote.Ref.{Bor}
use Rattle.seats.specs.Exactly.{Exactly}
use Rattle.records.specs.Bytes.{bytes_of}
use Rattle.records.specs.Sizes.{record_length}
use Rattle.records.specs.declared.record.Record.{Record}
use Rattle.measured.specs.Coding.{Decodes, mixed, number_of, parts_sum, part_told, parts_told}

first-part : (p r : List ℕ) → length p ≡ record_length → take record_length (p ++ r) ≡ p
first-part p r e = subst (λ (n : ℕ). take n (p ++ r) ≡ p) e (take-append_seam p r)

other-parts : (p r : List ℕ) → length p ≡ record_length → drop record_length (p ++ r) ≡ r
other-parts p r e = subst (λ (n : ℕ). drop n (p ++ r) ≡ r) e (drop-append_seam p r)

-- bytes say one thing
one-answer : (P : Record → Type 0) (o w : Option Record) → Exactly P o → Exactly P w → w ≡ o
one-answer P (Some x) w h k = (k x).1 ((h x).0 refl)
one-answer P None None h k = refl
one-answer P None (Some x) h k = sym ((h x).1 ((k x).0 refl))

decodes-more : (p r : List ℕ) (o : Option Record) (os : List (Option Record)) → length p ≡ record_length → Exactly (λ x. p ≡ bytes_of x) o → Decodes r os → Decodes (p ++ r) (o ∷ os)
decodes-more p r o os e h d = (omega (arith, length-append p r), rw (first-part p r e) h, rw (other-parts p r e) d)

-- what is still to be summed up, of a whole that is v
abbrev pub SumLeft : List ℕ → ℕ → ℕ → Type 0
SumLeft bs sum v = (os : List (Option Record)) × Decodes bs os × (parts_sum sum os ≡ v)

part-summed : (p r : List ℕ) (o : Option Record) (os : List (Option Record)) (sum v : ℕ) → length p ≡ record_length → Exactly (λ x. p ≡ bytes_of x) o → Decodes (p ++ r) os → parts_sum sum os ≡ v → SumLeft r (mixed sum (number_of o)) v
part-summed p r o [] sum v e h d s = absurd (omega (arith, length-append p r))
part-summed p r o (w ∷ os) sum v e h d s =
    let same : w ≡ o = one-answer (λ x. p ≡ bytes_of x) o w h (rw (first-part p r e) at d.1) in
    (os, rw (other-parts p r e) at d.2, rw same at s)

pub sum-more : (bs p r : List ℕ) (o : Option Record) (sum v : ℕ) → bs ≡ p ++ r → length p ≡ record_length → Exactly (λ x. p ≡ bytes_of x) o → SumLeft bs sum v → SumLeft r (mixed sum (number_of o)) v
sum-more bs p r o sum v b e h s = part-summed p r o s.0 sum v e h (rw b at s.1) s.2

no-part : (bs : List ℕ) (os : List (Option Record)) (sum v : ℕ) → length bs < record_length → Decodes bs os → parts_sum sum os ≡ v → sum ≡ v
no-part bs [] sum v l d s = s
no-part bs (o ∷ os) sum v l d s = absurd (omega (arith, d.0))

pub sum-done : (bs : List ℕ) (sum v : ℕ) → length bs < record_length → SumLeft bs sum v → sum ≡ v
sum-done bs sum v l s = no-part bs s.0 sum v l s.1 s.2

-- what an iterator over the parts gives, and that it gives no more
pub cut : (s t : ChunksExact ℕ) (p : Bor (List ℕ)) → chunks_exact_steps s (Some p) t → s.size ≡ record_length → (s.rest.now ≡ p.now ++ t.rest.now) × (length p.now ≡ record_length) × (t.size ≡ record_length)
cut s t p h e = (h.1.0, h.1.1 ∙ e, h.0 ∙ e)

pub no-cut : (s t : ChunksExact ℕ) → chunks_exact_steps s None t → s.size ≡ record_length → length s.rest.now < record_length
no-cut s t h e = rw e at h.1.0

-- with os in front of what the rest says, it is what all bytes say
abbrev pub Before : List ℕ → List ℕ → List (Option Record) → Type 0
Before bs rest os = (ws : List (Option Record)) → Decodes rest ws → Decodes bs (os ++ ws)

pub before-more : (bs rest p r : List ℕ) (o : Option Record) (os : List (Option Record)) → rest ≡ p ++ r → length p ≡ record_length → Exactly (λ x. p ≡ bytes_of x) o → Before bs rest os → Before bs r (os ++ o ∷ [])
before-more bs rest p r o os b e h f ws d =
    rw (append_assoc os (o ∷ []) ws) (f (o ∷ ws) (rw b (decodes-more p r o ws e h d)))

pub before-done : (bs rest : List ℕ) (os : List (Option Record)) → length rest < record_length → Before bs rest os → Decodes bs os
before-done bs rest os l f = rw (append-nil os) at (f [] l)

pub told-more : (os : List (Option Record)) (o : Option Record) → parts_told (os ++ o ∷ []) ≡ parts_told os ++ part_told o
told-more [] o = append-nil (part_told o)
told-more (w ∷ os) o = ap (λ (l : List ℕ). part_told w ++ l) (told-more os o) ∙ sym (append_assoc (part_told w) (parts_told os) (part_told o))
