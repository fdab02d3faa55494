-- The records of a journal's buffer.
use Rattle.std.specs.Prelude.{ℕ, ◌*◌, ◌/◌, ◌<◌, List, map, length, take, drop, ◌≢◌}
use Rattle.std.specs.List.{range_with_len}
use Rattle.records.specs.Bytes.{bytes_of, rec_of}
use Rattle.records.specs.Recs.{Rec}
use Rattle.records.specs.Sizes.{record_length}
use Rattle.records.specs.declared.record.Record.{Record}

-- the bytes of record i
abbrev pub slot : List ℕ → ℕ → List ℕ
slot bs i = take record_length (drop (record_length * i) bs)

-- what they say
abbrev pub rec_at : List ℕ → ℕ → Rec
rec_at bs i = rec_of (slot bs i)

-- what each whole slot of the buffer says
abbrev pub recs_in : List ℕ → List Rec
recs_in bs = map (rec_at bs) (range_with_len 0 (length bs / record_length))

-- record i breaks a rule of the format or leaves the buffer: no record has these bytes
abbrev pub MalformedAt : List ℕ → ℕ → Type 0
MalformedAt bs i = (r : Record) → slot bs i ≢ bytes_of r

-- none of the first n records is malformed
abbrev pub BytesSound : List ℕ → ℕ → Type 0
BytesSound bs n = (i : ℕ) → i < n → MalformedAt bs i → ⊥
