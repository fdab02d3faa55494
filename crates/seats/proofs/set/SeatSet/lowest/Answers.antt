use Rattle.std.proofs.Common.{◌≡◌, ℕ, ◌≤◌, Some, None, Option, ap, ◌∙◌, arith, MatchOption}
use lib.Count.{count_trailing_zeros}
use Rattle.seats.specs.declared.seat.Seat.{Seat}
use Rattle.seats.proofs.SetFacts.{lowest-one}
use Rattle.seats.proofs.ValueFacts.{same-seat}
use Rattle.seats.proofs.set.SeatSet.lowest.Goals as goal

-- the seat that is made of a seat's number is that seat
made : (o : Option Seat) (n : ℕ) (s : Seat) → n ≡ s.value → MatchOption o (16 ≤ n) (λ x. x.value ≡ n) → o ≡ Some s
made (Some x) n s e h = ap Some (same-seat x s (h ∙ e))
made None n s e h = let l = s.small in let no : ⊥ = omega arith in absurd no

pub returns : goal.returns
returns c s e =
    made c.new.result (count_trailing_zeros 16 c.args.self.bits) s (ap (count_trailing_zeros 16) e ∙ lowest-one 16 s.value s.small) c.new.ensures
