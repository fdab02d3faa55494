-- Whose move a move is.
use Rattle.std.specs.Prelude.{Some, None, Option}
use Rattle.rehearsals.specs.declared.moves.Move.{Move}
use Rattle.rehearsals.specs.declared.moves.Move.TheVariants.{Register, Join, AskCommit, AskRollback, AskOutcome, Coordinator, Vote, Participant, Post, Say, Take}
use Rattle.seats.specs.declared.seat.Seat.{Seat}

-- the seat of the participant that moves
abbrev pub seat_of : Move → Option Seat
seat_of (Register d) = None
seat_of (Join s) = Some s
seat_of AskCommit = None
seat_of AskRollback = None
seat_of AskOutcome = None
seat_of (Coordinator c) = None
seat_of (Vote s b) = Some s
seat_of (Participant s c) = Some s
seat_of (Post i) = None
seat_of (Say s k) = Some s
seat_of Take = None
