-- What a journal means as a log, and what opening one answers.
use Rattle.std.specs.Prelude.{◌≡◌, ℕ, ◌/◌, ◌<◌, List, [], length, take, Ok, Err, vec_items, vec_len, Result}
use Rattle.records.specs.Recs.{Rec}
use Rattle.records.specs.Sizes.{record_length}
use Rattle.journals.specs.Slots.{recs_in, MalformedAt, BytesSound}
use Rattle.logs.specs.Tables.{safe_of, loose_of}
use Rattle.journals.specs.declared.journal.Journal.{Journal}
use Rattle.journals.specs.declared.journal.Malformed.{Malformed}

abbrev pub bytes_in : Journal → List ℕ
bytes_in j = vec_items j.bytes

abbrev pub safe_in : Journal → List Rec
safe_in j = safe_of j.secured j.used (recs_in (bytes_in j))

abbrev pub loose_in : Journal → List Rec
loose_in j = loose_of j.secured j.used (recs_in (bytes_in j))

abbrev pub room_in : Journal → ℕ
room_in j = vec_len j.bytes / record_length

-- the buffer with its first n records, all safe
pub record Opened (bs : List ℕ) (n : ℕ) (j : Journal) : Type 0 where
  pub sound : BytesSound bs n
  pub bytes : bytes_in j ≡ bs
  pub capacity : room_in j ≡ length bs / record_length
  pub safe : safe_in j ≡ take n (recs_in bs)
  pub loose : loose_in j ≡ []

-- a refusal names the first of the n records that is malformed, and gives the buffer back
pub record Refused (bs : List ℕ) (n : ℕ) (m : Malformed) : Type 0 where
  pub within : m.record < n
  pub malformed : MalformedAt bs m.record
  pub first : BytesSound bs m.record
  pub bytes : vec_items m.bytes ≡ bs

abbrev pub OpenAnswer : List ℕ → ℕ → Result Journal Malformed → Type 0
OpenAnswer bs n (Ok j) = Opened bs n j
OpenAnswer bs n (Err m) = Refused bs n m
