-- What each move of a rehearsal does.
use Rattle.std.specs.Prelude.{◌≡◌, ℕ, ◌⊎◌, List, [], ◌∷◌, ◌++◌, ◌<◌, length, take, Some, None, Ok, Option, Result, is_some, true}
use Rattle.std.specs.Option.{option_and_then}
use Rattle.agreement.specs.Logs.{Fresh, log_of}
use Rattle.agreement.specs.Statement.{NoTwoEndDifferently, DecisionBacked, AnswersStay}
use Rattle.agreement.specs.World.{World, expires, settles, resends, restarts, seat_in, at_first, Clear}
use Rattle.agreement.specs.declared.participant.State.{State as PartState}
use Rattle.rehearsals.specs.Moves.{seat_of}
use Rattle.desks.specs.Steps.{RegisteredAs, AskedCommit, AskedRollback, AskedOutcome, Headed, HeadReceived, Joined, Acted, ActReceived, Voted, RestartedAt, PostedAt, Said, Took, NotGiven, NotTaken, NotJoined, NotAwaited, CannotSay, PostedOn, TakenOff, given_at, places}
use Rattle.desks.specs.Worlds.{world_of, state_in}
use Rattle.rehearsals.specs.declared.moves.Call.{Call}
use Rattle.rehearsals.specs.declared.moves.Call.TheVariants.{Expire, Settle, Resend, Receive, Restart}
use Rattle.rehearsals.specs.declared.moves.Move.{Move}
use Rattle.rehearsals.specs.declared.moves.Move.TheVariants.{Register, Join, AskCommit, AskRollback, AskOutcome, Coordinator, Vote, Participant, Post, Say, Take}
use Rattle.rehearsals.specs.declared.rehearsal.Rehearsal.{Rehearsal}
use Rattle.rehearsals.specs.declared.rehearsal.Unfinished.{Unfinished}
use Rattle.rehearsals.specs.declared.rehearsal.Unfinished.TheVariants.{NotOpened, Halted}
use Rattle.std.specs.Global.{Vec}
use Rattle.rehearsals.specs.declared.trace.Entry.{Entry}
use Rattle.rehearsals.specs.declared.trace.Event.{Event}
use Rattle.rehearsals.specs.declared.trace.Event.TheVariants as E
use Rattle.coordinator.specs.declared.right.ClosingRight.{ClosingRight}
use Rattle.lines.specs.Lines.{Chain}
use Rattle.lines.specs.declared.line.Line.{Ghosts as LineMeans}
use Rattle.logs.specs.declared.log.Log.{Ghosts as LogMeans}
use Rattle.seats.specs.declared.seat.Seat.{Seat}
use Rattle.agreement.specs.Turns.{note}
use Rattle.words.specs.Notes.{Note}
use Rattle.words.specs.declared.fault.Fault.{Fault}
use Rattle.words.specs.declared.notification.Notification.{Notification}

-- the closing right after a move: whoever asks to commit or to roll back spends it
abbrev pub right_after : Move → Option ClosingRight → Option ClosingRight
right_after (Register d) o = o
right_after (Join s) o = o
right_after AskCommit o = None
right_after AskRollback o = None
right_after AskOutcome o = o
right_after (Coordinator c) o = o
right_after (Vote s b) o = o
right_after (Participant s c) o = o
right_after (Post i) o = o
right_after (Say s k) o = o
right_after Take o = o

-- the event of a participant's call
abbrev pub event_of : Option (Result ℕ (Fault PartState)) → Event
event_of None = E.Impossible
event_of (Some a) = E.Participant a

-- agreement, whole, in one world: no two parties end differently, a decision is backed by every vote, and an answer once given stays
abbrev pub Agrees : ℕ → World → Type 0
Agrees t w = NoTwoEndDifferently w × DecisionBacked t w × AnswersStay w

module _ {C P N : Type 0} (mc : LogMeans C) (mp : LogMeans P) (mn : LineMeans N) where
  abbrev pub scene_of : Rehearsal C P N → World
  scene_of r = world_of mc mp mn r.desk

  module _ (r r' : Rehearsal C P N) where
    -- the transaction, and the worlds before and after
    abbrev t : ℕ
    t = r.desk.transaction

    abbrev w : World
    w = scene_of r

    abbrev v : World
    v = scene_of r'

    -- the logs that lie ready stay
    abbrev pub LogsStay : Type 0
    LogsStay = r'.logs.items ≡ r.logs.items

    -- so does the line
    abbrev pub LineStays : Type 0
    LineStays = r'.desk.line ≡ r.desk.line

    -- nothing changed
    abbrev pub Unmoved : Type 0
    Unmoved = (v ≡ w) × LineStays × LogsStay

    -- the move was made, and its event says so
    abbrev pub Can : {A : Type 0} → (A → Event) → (A → Type 0) → Event → Type 0
    Can {A = A} says did e = (a : A) × (e ≡ says a) × did a × LineStays × LogsStay

    -- a notification that is so was posted on the line
    abbrev pub OnLine : (Note → Type 0) → Type 0
    OnLine so = (n : Note) × so n × PostedOn mn n r.desk.line r'.desk.line

    -- the move could not be, and why; nothing changed
    abbrev pub Cannot : Type 0 → Event → Type 0
    Cannot why e = (e ≡ E.Impossible) × why × Unmoved

    -- the coordinator's calls
    abbrev pub Heads : Call → Event → Type 0
    Heads Expire e = Can E.Coordinator (Headed t w v (expires places)) e
    Heads Settle e = Can E.Coordinator (Headed t w v (settles places)) e
    Heads Resend e = Can E.Coordinator (Headed t w v (resends places)) e
    Heads (Receive i) e = Can E.Coordinator (HeadReceived t w v i) e ⊎ Cannot (NotTaken i w) e
    Heads (Restart n) e = Can E.Coordinator (Headed t w v (restarts (mc.survives r.desk.log n))) e

    -- those of the participant at seat s
    abbrev pub Acts : ℕ → Call → Event → Type 0
    Acts s Expire e = Can E.Participant (Acted t w v s (expires places)) e ⊎ Cannot (NotJoined s w) e
    Acts s Settle e = Can E.Participant (Acted t w v s (settles places)) e ⊎ Cannot (NotJoined s w) e
    Acts s Resend e = Can E.Participant (Acted t w v s (resends places)) e ⊎ Cannot (NotJoined s w) e
    Acts s (Receive i) e = Can E.Participant (ActReceived t w v s i) e ⊎ Cannot (NotTaken i w ⊎ NotJoined s w) e
    Acts s (Restart n) e =
        Can E.Participant (λ a. (a ≡ Ok 0) × RestartedAt mp r.desk.seats.items t w v s n (Some _)) e ⊎ Cannot (NotJoined s w) e

    -- the last of the logs that lie ready is the participant's
    abbrev pub JoinedWith : ℕ → P → Type 0
    JoinedWith s l = (r.logs.items ≡ r'.logs.items ++ l ∷ []) × LineStays × Joined t w v s (log_of mp l)

    -- no log lies ready; or nobody is awaited at the seat; or the last log that lies ready has a record of the transaction
    abbrev pub NobodyJoins : ℕ → Type 0
    NobodyJoins s = (r.logs.items ≡ []) ⊎ NotAwaited s w ⊎ ((ls : List P) × (l : P) × (r.logs.items ≡ ls ++ l ∷ []) × (Fresh t (log_of mp l) → ⊥))

    -- the closing right is still there
    abbrev pub HasRight : Type 0
    HasRight = is_some r.desk.right ≡ true

    -- what a move did, by its event
    abbrev pub Happened : Move → Event → Type 0
    Happened (Register d) e = Can E.Registered (RegisteredAs t w v d) e
    Happened (Join s) e = ((e ≡ E.Joined) × (l : P) × JoinedWith s.value l) ⊎ Cannot (NobodyJoins s.value) e
    Happened AskCommit e = Can E.Told (λ a. HasRight × AskedCommit t w v a) e ⊎ Cannot (r.desk.right ≡ None) e
    Happened AskRollback e = Can E.Told (λ a. HasRight × AskedRollback t w v a) e ⊎ Cannot (r.desk.right ≡ None) e
    Happened AskOutcome e = Can E.Asked (AskedOutcome t w v) e
    Happened (Coordinator c) e = Heads c e
    Happened (Vote s b) e = Can E.Participant (Voted t w v s.value b) e ⊎ Cannot (NotJoined s.value w) e
    Happened (Participant s c) e = Acts s.value c e
    Happened (Post i) e = ((e ≡ E.Posted) × PostedAt t w v i × OnLine (λ n. given_at i w ≡ Some n) × LogsStay) ⊎ Cannot (NotGiven i w) e
    Happened (Say s k) e = ((e ≡ E.Posted) × Said t w v s.value k × OnLine (λ n. n ≡ note t s.value k) × LogsStay) ⊎ Cannot (CannotSay s.value k w) e
    Happened Take e = (a : Option Notification) × (e ≡ E.Took a) × Took t w v a × TakenOff mn a r.desk.line r'.desk.line × LogsStay

    -- the move was made, or could not be, and the trace has one entry more, which tells what there is behind it
    pub record Plays (m : Move) : Type 0 where
      pub transaction : r'.desk.transaction ≡ t
      pub right : r'.desk.right ≡ right_after m r.desk.right
      pub entry : Entry
      pub happened : Happened m entry.event
      pub traced : r'.trace.items ≡ r.trace.items ++ entry ∷ []
      pub coordinator : entry.coordinator ≡ v.office.coord.state
      pub participant : entry.participant ≡ option_and_then (λ (s : Seat). state_in (seat_in v.office s.value)) (seat_of m)
      pub given : entry.given ≡ length v.office.mail.given

  -- nothing changed, nor was it traced
  pub record Resting (r r' : Rehearsal C P N) : Type 0 where
    pub transaction : r'.desk.transaction ≡ r.desk.transaction
    pub right : r'.desk.right ≡ r.desk.right
    pub unmoved : Unmoved r r'
    pub traced : r'.trace.items ≡ r.trace.items

  -- from one rehearsal to another by one move
  abbrev pub Step : Rehearsal C P N → Move → Rehearsal C P N → Type 0
  Step r m r' = Plays r r' m

  -- a rehearsal of transaction t that was just opened with these
  pub record Opened (t : ℕ) (log : C) (line : N) (logs : List P) (r : Rehearsal C P N) : Type 0 where
    pub transaction : r.desk.transaction ≡ t
    pub right : is_some r.desk.right ≡ true
    pub scene : scene_of r ≡ at_first (log_of mc log) (mn.waiting line)
    pub own_log : r.desk.log ≡ log
    pub own_line : r.desk.line ≡ line
    pub ready : r.logs.items ≡ logs
    pub trace : r.trace.items ≡ []

  -- exactly these moves were played, in their order, from the opening; and if neither the log nor the line had anything of the transaction, agreement stands, whole
  pub record Rehearsed (t : ℕ) (log : C) (line : N) (logs : List P) (ms : List Move) (r : Rehearsal C P N) : Type 0 where
    pub first : Rehearsal C P N
    pub opened : Opened t log line logs first
    pub played : Chain Step first ms r
    pub agreement : Fresh t (log_of mc log) → Clear t (mn.waiting line) → Agrees t (scene_of r)

  -- there was no memory for the n-th move, counted from 0: exactly those before it were played
  abbrev pub Halts : Rehearsal C P N → List Move → ℕ → Rehearsal C P N → Type 0
  Halts r ms n r' = (n < length ms) × (last : Rehearsal C P N) × Chain Step r (take n ms) last × Resting last r'

  -- why a rehearsal did not come to its end: nothing was opened, and all came back; or there was no memory for the n-th move, and agreement stands of those before it
  abbrev pub Stopped : ℕ → C → N → Vec P → List Move → Unfinished C P N → Type 0
  Stopped t log line logs ms (NotOpened a b c) = (a ≡ log) × (b ≡ line) × (c ≡ logs)
  Stopped t log line logs ms (Halted r n) =
      (first : Rehearsal C P N) × Opened t log line logs.items first × Halts first ms n r × (Fresh t (log_of mc log) → Clear t (mn.waiting line) → Agrees t (scene_of r))
