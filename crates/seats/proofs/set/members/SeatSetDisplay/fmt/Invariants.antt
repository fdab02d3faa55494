use Rattle.std.specs.Fmt.{HasWritten, IsPlainFormatter}
use Rattle.seats.specs.Texts.{seats_below}
use Rattle.seats.proofs.set.members.SeatSetDisplay.fmt.Given as goal

-- what the seats so far say is written
abbrev pub invariant-loop-number : goal.invariant-loop-number
invariant-loop-number g l =
    IsPlainFormatter l.initial.f → HasWritten g.W.Write.write_str_gives l.initial.f (seats_below l.self.bits l.number-counter) l.f
