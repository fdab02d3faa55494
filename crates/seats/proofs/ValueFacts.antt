-- Values whose numbers tell them apart: seats and sets of seats.
use mathlib.Core.HLevel.{is_prop→PathP}
use Rattle.std.proofs.Common.{◌≡◌, ◌^◌, ◌<◌}
use native.Mathlib.Bridge.{le_prop}
use Rattle.seats.specs.Sizes.{seat_count}
use Rattle.seats.specs.declared.seat.Seat.{Seat}
use Rattle.seats.specs.declared.set.SeatSet.{SeatSet}

pub same-seat : (a b : Seat) → a.value ≡ b.value → a ≡ b
same-seat a b e = λ i. record { value = e i; small = is_prop→PathP (λ j. e j < seat_count) (λ j. le_prop) a.small b.small i }

pub same_set : (a b : SeatSet) → a.bits ≡ b.bits → a ≡ b
same_set a b e = λ i. record { bits = e i; small = is_prop→PathP (λ j. e j < 2 ^ seat_count) (λ j. le_prop) a.small b.small i }
