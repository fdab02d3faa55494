-- What each call of the coordinator does.
use Rattle.std.specs.Prelude.{ℕ, suc, Bool, true, false, cond, not, ◌&&◌, ◌||◌, List, [], ◌∷◌, ◌++◌, map, length, replicate, Some, None, Ok, Err, Option, Result, ◌==◌, nat_le, nat_lt, slice_index_or, slice_set}
use Rattle.std.specs.List.{range_with_len}
use Rattle.records.specs.Recs.{Rec}
use Rattle.seats.specs.Sets.{member, bits_of}
use Rattle.seats.specs.Sizes.{seat_count}
use Rattle.words.specs.Kinds.{goes_up}
use Rattle.words.specs.Notes.{Note}
use Rattle.agreement.specs.Logs.{LogState, roomy, added, secured, restarted, decision_kind, is_decision, first}
use Rattle.agreement.specs.Names.{Kind, Prepare, Commit, Rollback, Prepared, ReadOnly, Aborted, Committed}
use Rattle.agreement.specs.Names.{State, Active, VolatileVoting, DurableVoting, Ready, Noted, Committing, Done, Rolled}
use Rattle.agreement.specs.Names.{Durability, Volatile, Durable, Standing, Idle, Asked, Voted, Gone, Heard, Place, Vacant, Seated}
use Rattle.agreement.specs.Names.{Outcome, Open, ToldCommitted, ToldAborted}
use Rattle.agreement.specs.States.{state_code}
use Rattle.agreement.specs.Turns.{Report, short_outbox, other_right, invalid_state, cannot_register, other_transaction, misdirected, unknown_transaction, invalid_peer, log_full, seated, tells, fails, Turn, gives, refuses, in_room, note}

-- a coordinator: its state, and its table, which has a place for each seat
pub record Coord : Type 0 where
  pub state : State
  pub table : List Place

abbrev pub coord : State → List Place → Coord
coord x ps = record { state = x; table = ps }

abbrev pub CoordTurn : Type 0
CoordTurn = Turn Coord State

-- a coordinator and its log; only settling and restarting touch the log
pub record Head : Type 0 where
  pub coord : Coord
  pub log : LogState

abbrev pub head : Coord → LogState → Head
head c l = record { coord = c; log = l }

abbrev pub HeadTurn : Type 0
HeadTurn = Turn Head State

-- how many places the outbox of a call has at least
abbrev pub coord_room : ℕ
coord_room = seat_count

-- ── tests of states and places ──

abbrev pub is : State → State → Bool
is y x = state_code x == state_code y

-- from Active to Ready: nothing is decided yet
abbrev pub gathers : State → Bool
gathers x = nat_le (state_code x) (state_code Ready)

abbrev pub outcome_of : State → Outcome
outcome_of Active = Open
outcome_of VolatileVoting = Open
outcome_of DurableVoting = Open
outcome_of Ready = Open
outcome_of Noted = Open
outcome_of Committing = ToldCommitted
outcome_of Done = ToldCommitted
outcome_of Rolled = ToldAborted

abbrev pub is_durable : Durability → Bool
is_durable Volatile = false
is_durable Durable = true

abbrev pub is_volatile : Durability → Bool
is_volatile d = not (is_durable d)

abbrev pub anyone : Durability → Bool
anyone d = true

abbrev pub is_idle : Standing → Bool
is_idle Idle = true
is_idle Asked = false
is_idle Voted = false
is_idle Gone = false
is_idle Heard = false

abbrev pub is_asked : Standing → Bool
is_asked Idle = false
is_asked Asked = true
is_asked Voted = false
is_asked Gone = false
is_asked Heard = false

abbrev pub is_voted : Standing → Bool
is_voted Idle = false
is_voted Asked = false
is_voted Voted = true
is_voted Gone = false
is_voted Heard = false

abbrev pub is_gone : Standing → Bool
is_gone Idle = false
is_gone Asked = false
is_gone Voted = false
is_gone Gone = true
is_gone Heard = false

-- a seat of such a durability that stands so
abbrev pub sits : (Durability → Bool) → (Standing → Bool) → Place → Bool
sits f g Vacant = false
sits f g (Seated (d, x)) = f d && g x

abbrev pub idle_volatile : Place → Bool
idle_volatile = sits is_volatile is_idle

abbrev pub idle_durable : Place → Bool
idle_durable = sits is_durable is_idle

abbrev pub pending_volatile : Place → Bool
pending_volatile = sits is_volatile (λ x. is_idle x || is_asked x)

abbrev pub asked : Place → Bool
asked = sits anyone is_asked

abbrev pub voted : Place → Bool
voted = sits anyone is_voted

abbrev pub voted_durable : Place → Bool
voted_durable = sits is_durable is_voted

abbrev pub remains : Place → Bool
remains = sits anyone (λ x. not (is_gone x))

abbrev pub none_is : (Place → Bool) → List Place → Bool
none_is q [] = true
none_is q (p ∷ ps) = not (q p) && none_is q ps

-- the first vacant place, counted from i
abbrev pub vacant_from : ℕ → List Place → Option ℕ
vacant_from i [] = None
vacant_from i (Vacant ∷ ps) = Some i
vacant_from i (Seated (d, x) ∷ ps) = vacant_from (suc i) ps

-- ── changes of the table ──

abbrev pub blank_table : List Place
blank_table = replicate seat_count Vacant

abbrev pub asked_if : Bool → Standing → Standing
asked_if b x = cond b Asked x

-- each Idle seat of such a durability becomes Asked
abbrev pub ask : (Durability → Bool) → Place → Place
ask f Vacant = Vacant
ask f (Seated (d, x)) = Seated (d, asked_if (f d && is_idle x) x)

abbrev pub in_state : State → Coord → Coord
in_state x c = coord x c.table

abbrev pub with_place : ℕ → Place → Coord → Coord
with_place s p c = coord c.state (slice_set c.table s p)

-- a set of seats as a table: each of them durable and Voted
abbrev pub seated_if : Bool → Place
seated_if b = cond b (Seated (Durable, Voted)) Vacant

abbrev pub table_of : ℕ → List Place
table_of seats = map (λ s. seated_if (member seats s)) (range_with_len 0 seat_count)

-- ── changes of the coordinator ──

-- T just opened
abbrev pub opened : Coord
opened = coord Active blank_table

-- a new seat: a volatile one is asked at once where volatile seats vote
abbrev pub new_standing : State → Durability → Standing
new_standing x d = asked_if (is VolatileVoting x && is_volatile d) Idle

-- advancing: once no volatile vote is owed, the durable seats are asked
abbrev pub starts_durable : Coord → Bool
starts_durable c = is VolatileVoting c.state && none_is pending_volatile c.table

abbrev pub durable_asked : Coord → Coord
durable_asked c = cond (starts_durable c) (coord DurableVoting (map (ask is_durable) c.table)) c

-- and once no vote is owed, it is Ready
abbrev pub readied : Coord → Coord
readied c = cond (is DurableVoting c.state && none_is asked c.table) (in_state Ready c) c

-- the decision is safe: there is nobody to wait for, or there is
abbrev pub done_if : Bool → State
done_if b = cond b Done Committing

-- the Voted durable seat that was left has been Heard
abbrev pub finished : Coord → Coord
finished c = cond (none_is voted_durable c.table) (in_state Done c) c

-- after a restart that found this Decision first, or none
abbrev pub found_by : Option Rec → Coord
found_by None = coord Rolled blank_table
found_by (Some r) = coord (done_if (r.seats == 0)) (table_of r.seats)

-- the outcome is told after what a call does
abbrev pub telling : CoordTurn → CoordTurn
telling turn = record { after = turn.after; sent = turn.sent; reply = tells (outcome_of turn.after.state) (length turn.sent) }

abbrev pub ask_outcome : Coord → CoordTurn
ask_outcome c = telling (gives c [])

-- ── what is received ──

-- the verdict on a notification while votes are gathered
pub data Verdict : Type 0 where
  -- nothing of the seat changes; the coordinator advances
  ignored : Verdict
  -- the seat stands so, and the coordinator advances
  stands : Standing → Verdict
  -- the seat is Gone, and the coordinator rolls back
  withdraws : Verdict
  -- fault 8, and the coordinator rolls back
  breaks : Verdict

pub record OnVote : Type 0 where
  pub prepared : Verdict
  pub read_only : Verdict
  pub aborted : Verdict
  pub committed : Verdict

abbrev vote : Verdict → Verdict → Verdict → Verdict → OnVote
vote a b c d = record { prepared = a; read_only = b; aborted = c; committed = d }

-- from Active to Ready: Prepared, ReadOnly, Aborted, Committed
abbrev pub votes : Standing → OnVote
votes Idle = vote breaks (stands Gone) withdraws breaks
votes Asked = vote (stands Voted) (stands Gone) withdraws breaks
votes Voted = vote ignored breaks breaks breaks
-- a Gone seat is passed over before, and none is Heard while votes are gathered
votes Gone = vote ignored ignored ignored ignored
votes Heard = vote ignored ignored ignored ignored

abbrev pub verdict : Kind → Standing → Verdict
verdict Prepare x = ignored
verdict Commit x = ignored
verdict Rollback x = ignored
verdict Prepared x = (votes x).prepared
verdict ReadOnly x = (votes x).read_only
verdict Aborted x = (votes x).aborted
verdict Committed x = (votes x).committed

-- fault 8 that changes nothing
abbrev pub faulty_peer : ℕ → Coord → CoordTurn
faulty_peer s c = refuses c (invalid_peer s c.state 0)

-- in Noted
abbrev pub hear_noted : ℕ → Kind → Coord → CoordTurn
hear_noted s Prepare c = gives c []
hear_noted s Commit c = gives c []
hear_noted s Rollback c = gives c []
hear_noted s Prepared c = gives c []
hear_noted s ReadOnly c = faulty_peer s c
hear_noted s Aborted c = faulty_peer s c
hear_noted s Committed c = faulty_peer s c

-- Committed, once it is decided, from a Voted durable seat or another
abbrev pub hear_committed : ℕ → Durability → Standing → Coord → CoordTurn
hear_committed s d x c = cond (is_durable d && is_voted x) (gives (finished (with_place s (Seated (d, Heard)) c)) []) (gives c [])

-- ── the calls; the coordinator of transaction t ──

module _ (t : ℕ) where
  -- a notification of the kind to each seat that passes, in the order of seats; the first place is seat i
  abbrev pub to_each : Kind → (Place → Bool) → ℕ → List Place → List Note
  to_each k q i [] = []
  to_each k q i (p ∷ ps) = cond (q p) (note t i k ∷ to_each k q (suc i) ps) (to_each k q (suc i) ps)

  -- rolling back
  abbrev pub rollbacks : Coord → List Note
  rollbacks c = to_each Rollback remains 0 c.table

  abbrev pub rolls_back : Coord → CoordTurn
  rolls_back c = gives (in_state Rolled c) (rollbacks c)

  -- advancing, behind notifications that are given already
  abbrev pub durable_prepares : Coord → List Note
  durable_prepares c = cond (starts_durable c) (to_each Prepare idle_durable 0 c.table) []

  abbrev pub advance : List Note → Coord → CoordTurn
  advance ns c = gives (readied (durable_asked c)) (ns ++ durable_prepares c)

  -- registering
  abbrev pub seat_at : Durability → Coord → Option ℕ → CoordTurn
  seat_at d c None = refuses c cannot_register
  seat_at d c (Some n) =
      let ns = to_each Prepare asked n (Seated (d, new_standing c.state d) ∷ []) in
      record { after = with_place n (Seated (d, new_standing c.state d)) c; sent = ns; reply = seated n (length ns) }

  abbrev pub register : ℕ → Durability → Coord → CoordTurn
  register room d c =
      in_room room coord_room c (cond (is Active c.state || is VolatileVoting c.state) (seat_at d c (vacant_from 0 c.table)) (refuses c invalid_state))

  -- asking; the closing right is one for transaction r
  abbrev pub by_right : ℕ → ℕ → Coord → CoordTurn → CoordTurn
  by_right room r c turn = in_room room coord_room c (cond (r == t) (telling turn) (refuses c other_right))

  abbrev pub volatile_asked : Coord → CoordTurn
  volatile_asked c = advance (to_each Prepare idle_volatile 0 c.table) (coord VolatileVoting (map (ask is_volatile) c.table))

  -- both act in Active only
  abbrev pub commit_asked : Coord → CoordTurn
  commit_asked c = cond (is Active c.state) (volatile_asked c) (gives c [])

  abbrev pub rollback_asked : Coord → CoordTurn
  rollback_asked c = cond (is Active c.state) (rolls_back c) (gives c [])

  abbrev pub ask_commit : ℕ → ℕ → Coord → CoordTurn
  ask_commit room r c = by_right room r c (commit_asked c)

  abbrev pub ask_rollback : ℕ → ℕ → Coord → CoordTurn
  ask_rollback room r c = by_right room r c (rollback_asked c)

  abbrev pub expire : ℕ → Coord → CoordTurn
  expire room c = in_room room coord_room c (cond (gathers c.state) (rolls_back c) (gives c []))

  abbrev pub resends : Coord → List Note
  resends c =
      cond (is VolatileVoting c.state || is DurableVoting c.state) (to_each Prepare asked 0 c.table)
      (cond (is Committing c.state) (to_each Commit voted_durable 0 c.table) [])

  abbrev pub resend : ℕ → Coord → CoordTurn
  resend room c = in_room room coord_room c (gives c (resends c))

  -- settling
  abbrev pub decision : List Place → Rec
  decision ps = record { transaction = t; kind = decision_kind; seats = bits_of seat_count (λ s. voted_durable (slice_index_or ps s Vacant)) }

  abbrev pub decides : Coord → LogState → HeadTurn
  decides c l =
      cond (roomy l) (gives (head (in_state Noted c) (added (decision c.table) l)) [])
      (record { after = head (in_state Rolled c) l; sent = rollbacks c; reply = fails (log_full l.capacity (length (rollbacks c))) })

  abbrev pub commits : Coord → LogState → HeadTurn
  commits c l = gives (head (in_state (done_if (none_is voted_durable c.table)) c) (secured l)) (to_each Commit voted 0 c.table)

  abbrev pub settle : ℕ → Coord → LogState → HeadTurn
  settle room c l =
      in_room room coord_room (head c l)
      (cond (is Ready c.state) (decides c l) (cond (is Noted c.state) (commits c l) (gives (head c l) [])))

  -- a restart that k loose records outlast
  abbrev pub restart : ℕ → LogState → HeadTurn
  restart k l = gives (head (found_by (first (is_decision t) (restarted k l).safe)) (restarted k l)) []

  -- receiving from seat s
  abbrev pub judge : ℕ → Durability → Verdict → Coord → CoordTurn
  judge s d ignored c = advance [] c
  judge s d (stands x) c = advance [] (with_place s (Seated (d, x)) c)
  judge s d withdraws c = rolls_back (with_place s (Seated (d, Gone)) c)
  judge s d breaks c = record { after = in_state Rolled c; sent = rollbacks c; reply = fails (invalid_peer s c.state (length (rollbacks c))) }

  abbrev pub hear_decided : ℕ → Kind → Durability → Standing → Coord → CoordTurn
  hear_decided s Prepare d x c = gives c []
  hear_decided s Commit d x c = gives c []
  hear_decided s Rollback d x c = gives c []
  hear_decided s Prepared d x c = gives c (note t s Commit ∷ [])
  hear_decided s ReadOnly d x c = faulty_peer s c
  hear_decided s Aborted d x c = faulty_peer s c
  hear_decided s Committed d x c = hear_committed s d x c

  abbrev pub hear_rolled : ℕ → Kind → Coord → CoordTurn
  hear_rolled s Prepare c = gives c []
  hear_rolled s Commit c = gives c []
  hear_rolled s Rollback c = gives c []
  hear_rolled s Prepared c = gives c (note t s Rollback ∷ [])
  hear_rolled s ReadOnly c = gives c []
  hear_rolled s Aborted c = gives c []
  hear_rolled s Committed c = faulty_peer s c

  abbrev pub hear_seated : ℕ → Kind → Durability → Standing → Coord → CoordTurn
  hear_seated s k d x c =
      cond (is_gone x) (gives c [])
      (cond (gathers c.state) (judge s d (verdict k x) c) (cond (is Noted c.state) (hear_noted s k c) (hear_decided s k d x c)))

  abbrev pub hear_from : ℕ → Kind → Place → Coord → CoordTurn
  hear_from s k Vacant c = refuses c unknown_transaction
  hear_from s k (Seated (d, x)) c = hear_seated s k d x c

  abbrev pub hear : ℕ → Kind → Coord → CoordTurn
  hear s k c = cond (is Rolled c.state) (hear_rolled s k c) (hear_from s k (slice_index_or c.table s Vacant) c)

  -- the checks of a notification, in their order
  abbrev pub admitted : ℕ → Note → Result (Unit {0}) (Report State)
  admitted room n =
      cond (nat_lt room coord_room) (Err short_outbox)
      (cond (n.transaction == t) (cond (goes_up n.kind) (Ok tt) (Err misdirected)) (Err other_transaction))

  abbrev pub heed : Result (Unit {0}) (Report State) → Note → Coord → CoordTurn
  heed (Ok _) n c = hear n.seat n.kind c
  heed (Err f) n c = refuses c f

  abbrev pub receive : ℕ → Note → Coord → CoordTurn
  receive room n c = heed (admitted room n) n c
