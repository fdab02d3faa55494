-- What the calls of a coordinator do, by the rules.
use Rattle.std.specs.Prelude.{◌≡◌, ◌≢◌, ℕ, ◌≤◌, if◌then◌else◌, nat_lt, List, map, Ok, Err, Result}
use Rattle.agreement.specs.CoordinatorRules.{Coord, CoordTurn, HeadTurn, coord, register, ask_commit, ask_rollback, expire, resend, settle, restart, admitted, receive}
use Rattle.agreement.specs.Logs.{LogState}
use Rattle.agreement.specs.Turns.{Report, short_outbox, other_right, Reply, seated, tells, fails, report_of}
use Rattle.agreement.specs.declared.coordinator.Durability.{Durability}
use Rattle.agreement.specs.declared.coordinator.State.{State}
use Rattle.coordinator.specs.declared.Coordinator.{Coordinator}
use Rattle.coordinator.specs.declared.answers.Registered.{Registered}
use Rattle.coordinator.specs.declared.answers.Returned.{Returned}
use Rattle.coordinator.specs.declared.answers.Told.{Told}
use Rattle.seats.specs.Sizes.{seat_count}
use Rattle.words.specs.Notes.{Note, row_of}
use Rattle.words.specs.Outboxes.{laid}
use Rattle.words.specs.declared.fault.Fault.{Fault}
use Rattle.words.specs.declared.row.Row.{Row}

-- the coordinator of the rules
abbrev pub coord_of : Coordinator → Coord
coord_of c = coord c.state c.table

-- a call kept to its turn: it leaves the coordinator as the turn says, and answers what the turn replies
pub record Leaves (turn : CoordTurn) (c d : Coordinator) (said : Reply State) : Type 0 where
  pub transaction : d.transaction ≡ c.transaction
  pub state : d.state ≡ turn.after.state
  pub table : d.table ≡ turn.after.table
  pub reply : said ≡ turn.reply

-- and writes its notifications to the front of its outbox
pub record Obeys (turn : CoordTurn) (c d : Coordinator) (old new : List Row) (said : Reply State) : Type 0 where
  pub leaves : Leaves turn c d said
  pub rows : new ≡ laid (map row_of turn.sent) old

-- the turn of a call that is lent a log, without the log
abbrev pub own_part : HeadTurn → CoordTurn
own_part turn = record { after = turn.after.coord; sent = turn.sent; reply = turn.reply }

-- and leaves its log so too
pub record Settles (turn : HeadTurn) (c d : Coordinator) (log : LogState) (old new : List Row) (said : Reply State) : Type 0 where
  pub obeys : Obeys (own_part turn) c d old new said
  pub safe : log.safe ≡ turn.after.log.safe
  pub loose : log.loose ≡ turn.after.log.loose
  pub capacity : log.capacity ≡ turn.after.log.capacity

-- what a registering and an asking answered
abbrev pub registered_reply : Result Registered (Fault State) → Reply State
registered_reply (Ok x) = seated x.seat.value x.sent
registered_reply (Err f) = fails (report_of f)

abbrev pub told_reply : Result Told Returned → Reply State
told_reply (Ok x) = tells x.outcome x.sent
told_reply (Err x) = fails (report_of x.fault)

-- the turns of a coordinator of the code; `room` is the length of its outbox
abbrev pub registered : Coordinator → ℕ → Durability → CoordTurn
registered c room d = register c.transaction room d (coord_of c)

-- with a right for transaction r
abbrev pub commit_asked_with : Coordinator → ℕ → ℕ → CoordTurn
commit_asked_with c room r = ask_commit c.transaction room r (coord_of c)

abbrev pub rollback_asked_with : Coordinator → ℕ → ℕ → CoordTurn
rollback_asked_with c room r = ask_rollback c.transaction room r (coord_of c)

abbrev pub expired : Coordinator → ℕ → CoordTurn
expired c room = expire c.transaction room (coord_of c)

abbrev pub resent : Coordinator → ℕ → CoordTurn
resent c room = resend c.transaction room (coord_of c)

abbrev pub settled : Coordinator → ℕ → LogState → HeadTurn
settled c room l = settle c.transaction room (coord_of c) l

abbrev pub received : Coordinator → ℕ → Note → CoordTurn
received c room n = receive c.transaction room n (coord_of c)

-- why a right for transaction r was given back, by the coordinator of transaction t
abbrev pub RightRefused : ℕ → ℕ → ℕ → Report State → Type 0
RightRefused t room r f = f ≡ (if nat_lt room seat_count then short_outbox else other_right) × (seat_count ≤ room → r ≢ t)

-- the checks of a notification
abbrev pub checked : {A : Type 0} → Result A (Fault State) → Result A (Report State)
checked (Ok a) = Ok a
checked (Err f) = Err (report_of f)

abbrev pub admits : Coordinator → ℕ → Note → Result (Unit {0}) (Fault State) → Type 0
admits c room n r = checked r ≡ admitted c.transaction room n

-- a restart that k loose records outlast
abbrev pub woken : Coordinator → ℕ → LogState → HeadTurn
woken c k l = restart c.transaction k l

-- a restart leaves the coordinator and its log so; it gives nothing
pub record Wakes (turn : HeadTurn) (c d : Coordinator) (log : LogState) : Type 0 where
  pub transaction : d.transaction ≡ c.transaction
  pub state : d.state ≡ turn.after.coord.state
  pub table : d.table ≡ turn.after.coord.table
  pub safe : log.safe ≡ turn.after.log.safe
  pub loose : log.loose ≡ turn.after.log.loose
  pub capacity : log.capacity ≡ turn.after.log.capacity
