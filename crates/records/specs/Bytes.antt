-- The bytes of a record, and what bytes say.
use Rattle.std.specs.Prelude.{◌≡◌, ℕ, ◌+◌, ◌*◌, ◌/◌, ◌%◌, ◌^◌, List, [], ◌∷◌, ◌++◌, length, drop, Some, None, Option, ◌≢◌, slice_index}
use Rattle.records.specs.Pairs.{covers, runs, padded, pairs_in}
use Rattle.records.specs.declared.ranges.Pair.{Pair}
use Rattle.records.specs.Recs.{Rec, model_of}
use Rattle.records.specs.Rows.{row_means}
use Rattle.seats.specs.Sets.{member, bits_of}
use Rattle.seats.specs.Sizes.{seat_count}
use Rattle.records.specs.Sizes.{pair_count}
use Rattle.records.specs.declared.record.Record.{Record}
use Rattle.records.specs.declared.row.Row.{Row}

-- a 32-bit number in four bytes, the highest first
abbrev pub word : ℕ → List ℕ
word t = t / 2 ^ 24 % 256 ∷ (t / 2 ^ 16 % 256 ∷ (t / 2 ^ 8 % 256 ∷ (t % 256 ∷ [])))

-- the runs of a set of seats
abbrev pub runs_of : ℕ → List Pair
runs_of seats = runs seat_count 0 (member seats)

-- transaction, kind, number of pairs, and the places of the pairs
unfoldable pub rec_bytes : Rec → List ℕ
rec_bytes r = word r.transaction ++ (r.kind ∷ (length (runs_of r.seats) ∷ padded pair_count (runs_of r.seats)))

abbrev pub bytes_of : Record → List ℕ
bytes_of r = rec_bytes (model_of r)

-- what the bytes say, whether they are a record's or not
unfoldable pub rec_of : List ℕ → Rec
rec_of bs = record {
  transaction = slice_index bs 0 * 2 ^ 24 + slice_index bs 1 * 2 ^ 16 + slice_index bs 2 * 2 ^ 8 + slice_index bs 3;
  kind = slice_index bs 4;
  seats = bits_of seat_count (covers (pairs_in (slice_index bs 5) (drop 6 bs)));
}

-- the bytes are a record's exactly if they are read as a row that is this record's
abbrev pub ReadsRow : List ℕ → Option Row → Type 0
ReadsRow bs (Some w) = (r : Record) → (bs ≡ bytes_of r → row_means w ≡ model_of r) × (row_means w ≡ model_of r → bs ≡ bytes_of r)
ReadsRow bs None = (r : Record) → bs ≢ bytes_of r
