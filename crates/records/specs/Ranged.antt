-- What `Ranges` holds, and what reading ranges from bytes answers.
use Rattle.std.specs.Prelude.{◌≡◌, ℕ, ◌≤◌, true, List, Some, None, Option}
use Rattle.records.specs.Pairs.{covers, parted, padded, pairs_in}
use Rattle.records.specs.declared.ranges.Pair.{Pair}
use Rattle.seats.specs.Sets.{bits_of}
use Rattle.seats.specs.Sizes.{seat_count}
use Rattle.seats.specs.declared.set.SeatSet.{SeatSet}
use Rattle.records.specs.Sizes.{pair_count}
use Rattle.records.specs.declared.ranges.Ranges.{Ranges}

abbrev pub held : Ranges → List Pair
held r = r.pairs.items

-- the bytes write c ranges: parted ones, and zero in the places that are not used
pub record Written (c : ℕ) (bs : List ℕ) : Type 0 where
  pub few : c ≤ pair_count
  pub apart : parted 0 seat_count (pairs_in c bs) ≡ true
  pub unused : bs ≡ padded pair_count (pairs_in c bs)

-- the seats in the ranges that the bytes write, and none exactly if they write none
abbrev pub ReadsSeats : ℕ → List ℕ → Option SeatSet → Type 0
ReadsSeats c bs (Some s) = Written c bs × (s.bits ≡ bits_of seat_count (covers (pairs_in c bs)))
ReadsSeats c bs None = Written c bs → ⊥
