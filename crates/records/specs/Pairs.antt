-- The pairs of offset and length that write a set of seats. All of it for any number of seats and of places.
use Rattle.std.specs.Prelude.{ℕ, zero, suc, ◌+◌, Bool, true, false, cond, ◌&&◌, ◌||◌, List, [], ◌∷◌, drop, ◌==◌, nat_le, nat_lt, slice_index}
use Rattle.records.specs.declared.ranges.Pair.{Pair}

abbrev pub pair : ℕ → ℕ → Pair
pair a b = record { offset = a; length = b }

-- whether seat k lies in one of the ranges
abbrev pub covers : List Pair → ℕ → Bool
covers [] k = false
covers (p ∷ ps) k = (nat_le p.offset k && nat_lt k (p.offset + p.length)) || covers ps k

-- sorted ranges of seats from a up and below n, each with at least one seat, and at least one free seat between neighbours
abbrev pub parted : ℕ → ℕ → List Pair → Bool
parted a n [] = true
parted a n (p ∷ ps) = nat_le a p.offset && (nat_le 1 p.length && (nat_le (p.offset + p.length) n && parted (p.offset + p.length + 1) n ps))

-- the first seat at which a range may follow parted ranges from a up
abbrev pub after : ℕ → List Pair → ℕ
after a [] = a
after a (p ∷ ps) = after (p.offset + p.length + 1) ps

-- seat a goes in front of ranges above it: it joins the one that begins at the next seat, or is a range of its own
abbrev pub front : ℕ → List Pair → List Pair
front a [] = pair a 1 ∷ []
front a (p ∷ ps) = cond (p.offset == a + 1) (pair a (p.length + 1) ∷ ps) (pair a 1 ∷ (p ∷ ps))

-- the runs of a set, among the n seats from a up
unfoldable pub runs : ℕ → ℕ → (ℕ → Bool) → List Pair
runs zero a f = []
runs (suc n) a f = cond (f a) (front a (runs n (a + 1) f)) (runs n (a + 1) f)

-- m places for pairs, one byte for an offset and one for a length, unused ones zero
abbrev pub padded : ℕ → List Pair → List ℕ
padded zero ps = []
padded (suc m) [] = 0 ∷ (0 ∷ padded m [])
padded (suc m) (p ∷ ps) = p.offset ∷ (p.length ∷ padded m ps)

-- the first c pairs of such bytes, whatever they are
abbrev pub pairs_in : ℕ → List ℕ → List Pair
pairs_in zero bs = []
pairs_in (suc c) bs = pair (slice_index bs 0) (slice_index bs 1) ∷ pairs_in c (drop 2 bs)
