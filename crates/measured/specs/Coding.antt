-- What the loops over records answer.
use Rattle.std.specs.Prelude.{◌≡◌, ℕ, zero, suc, ◌+◌, ◌-◌, ◌*◌, ◌/◌, ◌%◌, ◌^◌, ◌<◌, ◌≤◌, ◌⊎◌, cond, ◌==◌, ◌||◌, Bool, List, [], ◌∷◌, ◌++◌, length, take, drop, min, Some, None, Option, slice_index}
use Rattle.seats.specs.Exactly.{Exactly}
use Rattle.seats.specs.Sizes.{seat_count}
use Rattle.records.specs.Bytes.{word, bytes_of, rec_bytes}
use Rattle.records.specs.Recs.{Rec, model_of}
use Rattle.records.specs.Sizes.{record_length}
use Rattle.records.specs.declared.record.Record.{Record}
use Rattle.measured.specs.Sinks.{written}
use Rattle.journals.specs.Slots.{MalformedAt, BytesSound}

-- the kinds of a record with one seat
abbrev pub of_one_seat : ℕ → Bool
of_one_seat kind = kind == 2 || (kind == 3 || kind == 4)

-- the record that three numbers make: of a kind with one seat, or else a Decision with these bits
abbrev pub made_rec : ℕ → ℕ → ℕ → Rec
made_rec kind t bits = record {
  transaction = t;
  kind = cond (of_one_seat kind) kind 1;
  seats = cond (of_one_seat kind) (2 ^ (bits % seat_count)) bits;
}

-- record i of a kind: its seats are the upper half of i times a factor
abbrev pub varied_rec : ℕ → ℕ → Rec
varied_rec kind i = made_rec kind i (i * 2654435769 % 2 ^ 32 / 2 ^ 16)

-- one more number in a sum, which depends on their order
unfoldable pub mixed : ℕ → ℕ → ℕ
mixed sum n = (sum * 31 + n) % 2 ^ 64

-- the sum over one byte of each of so many records
abbrev pub encode_sum : ℕ → ℕ → ℕ
encode_sum kind zero = 0
encode_sum kind (suc i) = mixed (encode_sum kind i) (slice_index (rec_bytes (varied_rec kind i)) (i % record_length))

-- what each whole part of 22 bytes says: the record whose bytes it is, or none
abbrev pub Decodes : List ℕ → List (Option Record) → Type 0
Decodes bs [] = length bs < record_length
Decodes bs (o ∷ os) = (record_length ≤ length bs) × Exactly (λ r. take record_length bs ≡ bytes_of r) o × Decodes (drop record_length bs) os

-- the number that stands for it
abbrev pub number_of : Option Record → ℕ
number_of None = 0
number_of (Some r) = let m = model_of r in m.transaction + m.seats + m.kind

-- the sum goes on over all parts
abbrev pub parts_sum : ℕ → List (Option Record) → ℕ
parts_sum sum [] = sum
parts_sum sum (o ∷ os) = parts_sum (mixed sum (number_of o)) os

-- and over so many rounds
abbrev pub decode_sum : ℕ → List (Option Record) → ℕ
decode_sum zero os = 0
decode_sum (suc n) os = parts_sum (decode_sum n os) os

-- a record's kind, its transaction in four bytes and its seats in two
abbrev pub rec_told : Rec → List ℕ
rec_told m = m.kind ∷ (word m.transaction ++ (m.seats / 2 ^ 8 % 2 ^ 8 ∷ (m.seats % 2 ^ 8 ∷ [])))

-- a record so, and no record as a zero
abbrev pub part_told : Option Record → List ℕ
part_told None = 0 ∷ []
part_told (Some r) = rec_told (model_of r)

abbrev pub parts_told : List (Option Record) → List ℕ
parts_told [] = []
parts_told (o ∷ os) = part_told o ++ parts_told os

-- all parts are told at the front of the buffer, and how many bytes that are
abbrev pub ReadTold : List ℕ → List ℕ → List ℕ → ℕ → Type 0
ReadTold bs old new n = (os : List (Option Record)) × Decodes bs os × (new ≡ written (parts_told os) old) × (n ≡ min (length old) (length (parts_told os)))

-- what the opening of n records answers: that there was no memory; n, as all are sound; or the first malformed one
abbrev pub OpenTold : List ℕ → ℕ → ℕ → Type 0
OpenTold bs n r = (r ≡ 2 ^ 64 - 1) ⊎ (((r ≡ n) × BytesSound bs n) ⊎ ((r < n) × MalformedAt bs r × BytesSound bs r))
