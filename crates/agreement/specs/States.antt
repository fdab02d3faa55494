-- The codes of the states, from 0 in their order, and their names.
use Rattle.std.specs.Prelude.{ℕ, List, codes}
use Rattle.agreement.specs.Names.{State, Active, VolatileVoting, DurableVoting, Ready, Noted, Committing, Done, Rolled}
use Rattle.agreement.specs.Names.{PartState, Working, Voting, VoteNoted, InDoubt, Keeping, Undoing, Kept, Undone, Viewed, Unknown}
use Rattle.agreement.specs.Names.{Ballot, VotePrepared, VoteReadOnly, VoteAborted}

abbrev pub state_code : State → ℕ
state_code Active = 0
state_code VolatileVoting = 1
state_code DurableVoting = 2
state_code Ready = 3
state_code Noted = 4
state_code Committing = 5
state_code Done = 6
state_code Rolled = 7

abbrev pub state_name : State → List ℕ
state_name Active = codes "Active"
state_name VolatileVoting = codes "VolatileVoting"
state_name DurableVoting = codes "DurableVoting"
state_name Ready = codes "Ready"
state_name Noted = codes "Noted"
state_name Committing = codes "Committing"
state_name Done = codes "Done"
state_name Rolled = codes "Rolled"

abbrev pub part_code : PartState → ℕ
part_code Working = 0
part_code Voting = 1
part_code VoteNoted = 2
part_code InDoubt = 3
part_code Keeping = 4
part_code Undoing = 5
part_code Kept = 6
part_code Undone = 7
part_code Viewed = 8
part_code Unknown = 9

abbrev pub part_name : PartState → List ℕ
part_name Working = codes "Working"
part_name Voting = codes "Voting"
part_name VoteNoted = codes "Noted"
part_name InDoubt = codes "InDoubt"
part_name Keeping = codes "Keeping"
part_name Undoing = codes "Undoing"
part_name Kept = codes "Kept"
part_name Undone = codes "Undone"
part_name Viewed = codes "Viewed"
part_name Unknown = codes "Unknown"

abbrev pub ballot_name : Ballot → List ℕ
ballot_name VotePrepared = codes "prepared"
ballot_name VoteReadOnly = codes "readonly"
ballot_name VoteAborted = codes "aborted"
