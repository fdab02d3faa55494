-- What the cases at the edge of the rules are to show.
use Rattle.std.specs.Prelude.{◌≡◌, ℕ, List, [], ◌∷◌, Some, None, Result, replicate, slice_index_or}
use Rattle.agreement.specs.Names.{Place}
use Rattle.agreement.specs.declared.coordinator.Durability.TheVariants.{Volatile, Durable}
use Rattle.agreement.specs.declared.coordinator.Standing.TheVariants.{Voted as VotedFor}
use Rattle.agreement.specs.declared.coordinator.State.{State}
use Rattle.agreement.specs.declared.participant.State.{State as StoreState}
use Rattle.records.specs.Recs.{Rec}
use Rattle.words.specs.declared.fault.Fault.{Fault}
use Rattle.words.specs.declared.kind.Kind.TheVariants.{Prepared}
use Rattle.words.specs.declared.row.Row.{Row}
use Rattle.edges.specs.Stages.{Shows, played, mark}
use Rattle.words.specs.Rows.{blank_row}
use Rattle.edges.specs.declared.stage.Answer.{Answer}
use Rattle.edges.specs.declared.stage.Call.{Call}
use Rattle.edges.specs.declared.stage.Call.TheVariants.{Register, AskCommit, Hear, Settle}
use Rattle.edges.specs.declared.stage.Shown.{Shown}
use Rattle.edges.specs.declared.storing.Cast.{Cast}

-- behind some calls, one more was made: it gave this answer and left this state, and all that was seen is as the rules' turn says
pub record Case (behind : List Call) (call : Call) (answer : Answer) (state : State) (s : Shown) : Type 0 where
  pub turn : Shows call (played behind) s
  pub answered : s.answer ≡ answer
  pub left : s.after.state ≡ state

abbrev pub row : ℕ → ℕ → ℕ → Row
row t s k = record { transaction = t; seat = s; kind = k }

-- whoever says Prepared after the roll-back gets Rollback, here seat 9, which is nobody's
abbrev pub stranger_told : List Row
stranger_told = row 7 9 3 ∷ replicate 15 blank_row

-- a durable participant at seat 0 and a volatile one at seat 1 vote for the step, and it settles: Noted
abbrev pub both_voted : List Call
both_voted = Register Durable ∷ Register Volatile ∷ AskCommit ∷ Hear 1 Prepared ∷ Hear 0 Prepared ∷ Settle ∷ []

abbrev pub both_seats : List Place
both_seats = Some (Durable, VotedFor) ∷ Some (Volatile, VotedFor) ∷ replicate 14 None

abbrev pub marked : List Row
marked = replicate 16 mark

-- a volatile participant at seat 0 votes
abbrev pub volatile_votes : List Call
volatile_votes = Register Volatile ∷ AskCommit ∷ []

-- a durable one at seat 1 registered meanwhile, and votes now
abbrev pub durable_votes : List Call
durable_votes = Register Volatile ∷ AskCommit ∷ Register Durable ∷ Hear 0 Prepared ∷ []

-- a durable participant at seat 0 voted for the step, and the Decision is written and loose
abbrev pub decided : List Call
decided = Register Durable ∷ AskCommit ∷ Hear 0 Prepared ∷ Settle ∷ []

-- so many durable participants register
abbrev pub registering : ℕ → List Call
registering n = replicate n (Register Durable)

-- a vote for the step was answered so, and left this state, this row in the outbox, and so many places in the log
pub record Voted (answer : Result ℕ (Fault StoreState)) (state : StoreState) (row : Row) (spare : ℕ) (c : Cast) : Type 0 where
  pub answered : c.answer ≡ answer
  pub left : c.after.state ≡ state
  pub sent : c.after.outbox ≡ row ∷ []
  pub spared : c.after.spare ≡ spare

-- what is restarted: the place of seat 0, and how many records its log has, which are safe
pub record Woken (place : Place) (records : ℕ) (s : Shown) : Type 0 where
  pub seat : slice_index_or s.after.table 0 None ≡ place
  pub safe : s.after.safe ≡ records
  pub loose : s.after.loose ≡ 0

-- the Decision of transaction 7 with seats 0, 1, 2 and 5
abbrev pub decision : Rec
decision = record { transaction = 7; kind = 1; seats = 39 }

-- its bytes: two runs, three seats from 0 on and one from 5 on
abbrev pub decision_bytes : List ℕ
decision_bytes = 0 ∷ 0 ∷ 0 ∷ 7 ∷ 1 ∷ 2 ∷ 0 ∷ 3 ∷ 5 ∷ 1 ∷ replicate 12 0
