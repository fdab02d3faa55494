-- What each call of a durable participant does.
use Rattle.std.specs.Prelude.{ℕ, ◌^◌, cond, List, [], ◌∷◌, Some, None, Ok, Err, Option, Result, ◌==◌, nat_le, nat_lt}
use Rattle.records.specs.Recs.{Rec}
use Rattle.words.specs.Notes.{Note}
use Rattle.agreement.specs.Logs.{LogState, spare, roomy, added, secured, restarted, vote_kind, kept_kind, undone_kind, is_own, is_ending, first, some_is}
use Rattle.agreement.specs.Names.{Kind, Prepare, Commit, Rollback, Prepared, ReadOnly, Aborted, Committed}
use Rattle.agreement.specs.Names.{PartState, Working, Voting, VoteNoted, InDoubt, Keeping, Undoing, Kept, Undone, Viewed, Unknown}
use Rattle.agreement.specs.Names.{Ballot, VotePrepared, VoteReadOnly, VoteAborted}
use Rattle.agreement.specs.States.{part_code}
use Rattle.agreement.specs.Turns.{Report, short_outbox, invalid_state, other_transaction, misdirected, invalid_peer, inconsistent, log_full, no_place, Turn, fails, gives, refuses, in_room, note}

-- a participant and its log
pub record Part : Type 0 where
  pub state : PartState
  pub log : LogState

abbrev pub part : PartState → LogState → Part
part x l = record { state = x; log = l }

abbrev pub PartTurn : Type 0
PartTurn = Turn Part PartState

-- how many places the outbox of a call has at least
abbrev pub part_room : ℕ
part_room = 1

-- what stands in a cell of the tables
pub data Cell : Type 0 where
  -- nothing happens
  ignores : Cell
  -- it sends this, and stays as it is
  sends : Kind → Cell
  enters : PartState → Cell
  -- it sends this and enters
  leaves : Kind → PartState → Cell
  -- it adds a record of this kind and enters, unless the log is full: fault 10
  adds : ℕ → PartState → Cell
  -- it secures its log, sends this and enters
  secures : Kind → PartState → Cell
  -- fault 8
  invalid : Cell
  -- fault 9
  contradicts : Cell

-- the cells of one state: what it does with each notification, and with each call that comes of itself
pub record OnNotice : Type 0 where
  pub prepare : Cell
  pub commit : Cell
  pub rollback : Cell

pub record OnCall : Type 0 where
  pub settling : Cell
  pub expiry : Cell
  pub resending : Cell

abbrev notice : Cell → Cell → Cell → OnNotice
notice a b c = record { prepare = a; commit = b; rollback = c }

abbrev call : Cell → Cell → Cell → OnCall
call a b c = record { settling = a; expiry = b; resending = c }

-- what is received: Prepare, Commit, Rollback
abbrev pub received : PartState → OnNotice
received Working = notice (enters Voting) invalid (leaves Aborted Undone)
received Voting = notice ignores invalid (leaves Aborted Undone)
received VoteNoted = notice ignores invalid (adds undone_kind Undoing)
received InDoubt = notice (sends Prepared) (adds kept_kind Keeping) (adds undone_kind Undoing)
received Keeping = notice ignores ignores contradicts
received Undoing = notice ignores contradicts ignores
received Kept = notice ignores (sends Committed) contradicts
received Undone = notice (sends Aborted) contradicts (sends Aborted)
received Viewed = notice (sends ReadOnly) (sends Committed) (sends Aborted)
received Unknown = notice (sends Aborted) (sends Committed) (sends Aborted)

-- what is called: settling, expiry, resending
abbrev pub called : PartState → OnCall
called Working = call ignores (leaves Aborted Undone) ignores
called Voting = call ignores (leaves Aborted Undone) ignores
called VoteNoted = call (secures Prepared InDoubt) ignores ignores
called InDoubt = call ignores ignores (sends Prepared)
called Keeping = call (secures Committed Kept) ignores ignores
called Undoing = call (secures Aborted Undone) ignores ignores
called Kept = call ignores ignores ignores
called Undone = call ignores ignores ignores
called Viewed = call ignores ignores ignores
called Unknown = call ignores ignores ignores

-- the state of a Kept or an Undone that is found, or else another
abbrev pub ended_by : Option Rec → PartState → PartState
ended_by None x = x
ended_by (Some r) x = cond (r.kind == kept_kind) Kept Undone

-- a record is added and a state entered, unless the log is full
abbrev pub adds_record : Rec → PartState → PartState → LogState → PartTurn
adds_record r y x l = cond (roomy l) (gives (part y (added r l)) []) (refuses (part x l) (log_full l.capacity 0))

-- the participant of transaction t at seat s
module _ (t s : ℕ) where
  abbrev pub own_record : ℕ → Rec
  own_record kind = record { transaction = t; kind = kind; seats = 2 ^ s }

  -- what a cell does
  abbrev pub play : Cell → PartState → LogState → PartTurn
  play ignores x l = gives (part x l) []
  play (sends k) x l = gives (part x l) (note t s k ∷ [])
  play (enters y) x l = gives (part y l) []
  play (leaves k y) x l = gives (part y l) (note t s k ∷ [])
  play (adds kind y) x l = adds_record (own_record kind) y x l
  play (secures k y) x l = gives (part y (secured l)) (note t s k ∷ [])
  play invalid x l = refuses (part x l) (invalid_peer s x 0)
  play contradicts x l = refuses (part x l) inconsistent

  -- the checks of a notification, in their order; the kinds for a coordinator are the other side's
  abbrev pub admitted : ℕ → Note → Result (Unit {0}) (Report PartState)
  admitted room n =
      cond (nat_lt room part_room) (Err short_outbox)
      (cond (n.transaction == t) (cond (n.seat == s) (Ok tt) (Err misdirected)) (Err other_transaction))

  abbrev pub obey : Kind → PartState → LogState → PartTurn
  obey Prepare x l = play (received x).prepare x l
  obey Commit x l = play (received x).commit x l
  obey Rollback x l = play (received x).rollback x l
  obey Prepared x l = refuses (part x l) misdirected
  obey ReadOnly x l = refuses (part x l) misdirected
  obey Aborted x l = refuses (part x l) misdirected
  obey Committed x l = refuses (part x l) misdirected

  abbrev pub heed : Result (Unit {0}) (Report PartState) → Kind → PartState → LogState → PartTurn
  heed (Ok _) k x l = obey k x l
  heed (Err f) k x l = refuses (part x l) f

  abbrev pub receive : ℕ → Note → PartState → LogState → PartTurn
  receive room n x l = heed (admitted room n) n.kind x l

  abbrev pub settle : ℕ → PartState → LogState → PartTurn
  settle room x l = in_room room part_room (part x l) (play (called x).settling x l)

  abbrev pub expire : ℕ → PartState → LogState → PartTurn
  expire room x l = in_room room part_room (part x l) (play (called x).expiry x l)

  abbrev pub resend : ℕ → PartState → LogState → PartTurn
  resend room x l = in_room room part_room (part x l) (play (called x).resending x l)

  -- a vote for the step wants a place for the Vote and one for its outcome
  abbrev pub vote_for : LogState → PartTurn
  vote_for l =
      cond (nat_le 2 (spare l)) (gives (part VoteNoted (added (own_record vote_kind) l)) [])
      (record { after = part Undone l; sent = note t s Aborted ∷ []; reply = fails (no_place (spare l) 1) })

  abbrev pub vote_as : Ballot → PartState → LogState → PartTurn
  vote_as VotePrepared x l = vote_for l
  vote_as VoteReadOnly x l = play (leaves ReadOnly Viewed) x l
  vote_as VoteAborted x l = play (leaves Aborted Undone) x l

  abbrev pub vote : ℕ → Ballot → PartState → LogState → PartTurn
  vote room b x l =
      in_room room part_room (part x l) (cond (part_code x == part_code Voting) (vote_as b x l) (refuses (part x l) invalid_state))

  -- the first Kept or Undone gives that state, else a Vote gives InDoubt, else Unknown
  abbrev pub found : List Rec → PartState
  found rs = ended_by (first (is_ending t s) rs) (cond (some_is (is_own vote_kind t s) rs) InDoubt Unknown)

  abbrev pub restart : ℕ → LogState → PartTurn
  restart k l = gives (part (found (restarted k l).safe) (restarted k l)) []
