-- The records that the demonstration writes, and their bytes.
use Rattle.std.specs.Prelude.{ℕ, List, [], ◌∷◌, ◌++◌}
use Rattle.records.specs.Recs.{Rec}

-- transaction 7 is decided (kind 1) with seats 0, 1, 2 and 5, and seat 5 voted (kind 2)
abbrev pub sample_recs : List Rec
sample_recs = record { transaction = 7; kind = 1; seats = 39 } ∷ (record { transaction = 7; kind = 2; seats = 32 } ∷ [])

-- transaction 7, kind 1, two pairs: three seats from 0 on, one from 5 on
abbrev pub decided_bytes : List ℕ
decided_bytes = 0 ∷ 0 ∷ 0 ∷ 7 ∷ 1 ∷ 2 ∷ 0 ∷ 3 ∷ 5 ∷ 1 ∷ 0 ∷ 0 ∷ 0 ∷ 0 ∷ 0 ∷ 0 ∷ 0 ∷ 0 ∷ 0 ∷ 0 ∷ 0 ∷ 0 ∷ []

-- transaction 7, kind 2, one pair: one seat from 5 on
abbrev pub voted_bytes : List ℕ
voted_bytes = 0 ∷ 0 ∷ 0 ∷ 7 ∷ 2 ∷ 1 ∷ 5 ∷ 1 ∷ 0 ∷ 0 ∷ 0 ∷ 0 ∷ 0 ∷ 0 ∷ 0 ∷ 0 ∷ 0 ∷ 0 ∷ 0 ∷ 0 ∷ 0 ∷ 0 ∷ []

-- the 44 bytes of both
abbrev pub sample_bytes : List ℕ
sample_bytes = decided_bytes ++ voted_bytes
