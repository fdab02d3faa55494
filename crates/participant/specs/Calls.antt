-- What the calls of a participant do, by the rules.
use Rattle.std.specs.Prelude.{◌≡◌, ℕ, List, map, Ok, Err, Result}
use Rattle.agreement.specs.Logs.{LogState}
use Rattle.agreement.specs.declared.participant.Ballot.{Ballot}
use Rattle.agreement.specs.declared.participant.State.{State}
use Rattle.agreement.specs.ParticipantRules.{PartTurn, admitted, receive, vote, vote_for, settle, expire, resend, restart}
use Rattle.agreement.specs.Turns.{Report, report_of, reply_of}
use Rattle.participant.specs.declared.Participant.{Participant}
use Rattle.records.specs.Recs.{Rec, kind_of, seats_of}
use Rattle.records.specs.declared.record.Entry.{Entry}
use Rattle.words.specs.Notes.{Note, row_of}
use Rattle.words.specs.Outboxes.{laid}
use Rattle.words.specs.declared.fault.Fault.{Fault}
use Rattle.words.specs.declared.row.Row.{Row}

-- a call kept to its turn: it leaves the participant and its log as the turn says, and answers what the turn replies
pub record Leaves (turn : PartTurn) (p q : Participant) (log : LogState) (said : Result ℕ (Fault State)) : Type 0 where
  pub transaction : q.transaction ≡ p.transaction
  pub seat : q.seat ≡ p.seat
  pub state : q.state ≡ turn.after.state
  pub safe : log.safe ≡ turn.after.log.safe
  pub loose : log.loose ≡ turn.after.log.loose
  pub capacity : log.capacity ≡ turn.after.log.capacity
  pub reply : reply_of said ≡ turn.reply

-- and writes its notifications to the front of its outbox
pub record Obeys (turn : PartTurn) (p q : Participant) (log : LogState) (old new : List Row) (said : Result ℕ (Fault State)) : Type 0 where
  pub leaves : Leaves turn p q log said
  pub rows : new ≡ laid (map row_of turn.sent) old

-- the turns of a participant of the code; `room` is the length of its outbox
abbrev pub received : Participant → ℕ → Note → LogState → PartTurn
received p room n l = receive p.transaction p.seat.value room n p.state l

abbrev pub voted : Participant → ℕ → Ballot → LogState → PartTurn
voted p room b l = vote p.transaction p.seat.value room b p.state l

abbrev pub voted_for : Participant → LogState → PartTurn
voted_for p l = vote_for p.transaction p.seat.value l

abbrev pub settled : Participant → ℕ → LogState → PartTurn
settled p room l = settle p.transaction p.seat.value room p.state l

abbrev pub expired : Participant → ℕ → LogState → PartTurn
expired p room l = expire p.transaction p.seat.value room p.state l

abbrev pub resent : Participant → ℕ → LogState → PartTurn
resent p room l = resend p.transaction p.seat.value room p.state l

-- a restart that k loose records outlast
abbrev pub woken : Participant → ℕ → LogState → PartTurn
woken p k l = restart p.transaction p.seat.value k l

-- the checks of a notification
abbrev pub checked : {A : Type 0} → Result A (Fault State) → Result A (Report State)
checked (Ok a) = Ok a
checked (Err f) = Err (report_of f)

abbrev pub admits : Participant → ℕ → Note → Result (Unit {0}) (Fault State) → Type 0
admits p room n r = checked r ≡ admitted p.transaction p.seat.value room n

-- the record of an entry in its transaction
abbrev pub record_of : Participant → Entry → Rec
record_of p e = record { transaction = p.transaction; kind = kind_of e; seats = seats_of e }
