-- What each step at a desk does.
use Rattle.std.specs.Prelude.{◌≡◌, ℕ, ◌+◌, ◌%◌, ◌^◌, true, List, reverse, Ok, Err, Some, None, Result, Option, slice_index_or}
use Rattle.std.specs.List.{slice_get}
use Rattle.std.specs.Option.{option_map}
use Rattle.std.specs.declared.alloc.AllocError.{AllocError}
use Rattle.agreement.specs.CoordinatorRules as C
use Rattle.agreement.specs.Logs.{LogState}
use Rattle.agreement.specs.declared.coordinator.Durability.{Durability}
use Rattle.agreement.specs.declared.coordinator.Outcome.{Outcome}
use Rattle.agreement.specs.declared.coordinator.State.{State}
use Rattle.agreement.specs.declared.participant.Ballot.{Ballot}
use Rattle.agreement.specs.declared.participant.State.{State as PartState}
use Rattle.agreement.specs.ParticipantRules.{Part}
use Rattle.agreement.specs.Turns.{reply_of, note}
use Rattle.agreement.specs.World.{World, Call, Move, made, Possible, head_does, part_does, part_votes, seat_in, volatile, awaited, joined}
use Rattle.agreement.specs.World as W
use Rattle.coordinator.specs.Calls.{registered_reply, told_reply}
use Rattle.coordinator.specs.declared.answers.Registered.{Registered}
use Rattle.coordinator.specs.declared.answers.Told.{Told}
use Rattle.desks.specs.declared.desk.Party.{Party}
use Rattle.desks.specs.declared.desk.Party.TheVariants.{Nobody, Joined as Sits}
use Rattle.desks.specs.declared.desk.Store.{Store}
use Rattle.lines.specs.declared.line.Line.{Ghosts as LineMeans}
use Rattle.logs.specs.declared.log.Log.{Ghosts as LogMeans}
use Rattle.words.specs.Kinds.{goes_up}
use Rattle.words.specs.Notes.{Note, note_of}
use Rattle.words.specs.declared.fault.Fault.{Fault}
use Rattle.words.specs.declared.kind.Kind.{Kind}
use Rattle.words.specs.declared.notification.Notification.{Notification}

-- a move of the world of transaction t that was possible, and made
pub record Moved (t : ℕ) (m : Move) (w v : World) : Type 0 where
  pub possible : Possible t m w
  pub made : v ≡ made t m w

-- what a step answers: what it did; or that it could not be, and nothing changed; or that there was no memory, and nothing changed
abbrev pub Tried : {A : Type 0} → (A → Type 0) → Type 0 → World → World → Result (Option A) AllocError → Type 0
Tried did why w v (Ok (Some a)) = did a
Tried did why w v (Ok None) = why × (v ≡ w)
Tried did why w v (Err f) = v ≡ w

-- the same of a step that can always be
abbrev pub Did : {A : Type 0} → (A → Type 0) → World → World → Result A AllocError → Type 0
Did did w v (Ok a) = did a
Did did w v (Err f) = v ≡ w

-- the notification with this number, the oldest having 0
abbrev pub given_at : ℕ → World → Option Note
given_at i w = slice_get w.office.mail.given i

abbrev pub taken_at : ℕ → World → Option Note
taken_at i w = slice_get (reverse w.office.mail.taken) i

-- this notification was posted on the line, once: by a step of the line's own, and counted
abbrev pub PostedOn : {N : Type 0} → LineMeans N → Note → N → N → Type 0
PostedOn mn n l k = mn.step l n k × (mn.posts k ≡ (mn.posts l + 1) % 2 ^ 64)

-- this was taken off the line, or nothing: as the line's own rules give it, and no post was counted
abbrev pub TakenOff : {N : Type 0} → LineMeans N → Option Notification → N → N → Type 0
TakenOff mn o l k = mn.gives l (option_map note_of o) k × (mn.posts k ≡ mn.posts l)

-- what a step that posts does on the line: it posts a notification that is so; or it does nothing, since it could not be, or for want of memory
abbrev pub LineBy : {N : Type 0} → LineMeans N → (Note → Type 0) → N → N → Result (Option (Unit {0})) AllocError → Type 0
LineBy mn so l k (Ok (Some u)) = (n : Note) × so n × PostedOn mn n l k
LineBy mn so l k (Ok None) = k ≡ l
LineBy mn so l k (Err f) = k ≡ l

-- how many places the outboxes at a desk have
abbrev pub places : ℕ
places = 16

module _ (t : ℕ) (w v : World) where
  -- ── the line ──

  abbrev pub Posted : Note → Type 0
  Posted n = Moved t (W.posts n v.office.mail.waiting) w v

  abbrev pub PostedAt : ℕ → Type 0
  PostedAt i = (n : Note) × (given_at i w ≡ Some n) × Posted n

  abbrev pub Said : ℕ → Kind → Type 0
  Said s k = (goes_up k ≡ true) × (seat_in w.office s ≡ volatile) × Posted (note t s k)

  abbrev pub Took : Option Notification → Type 0
  Took (Some n) = Moved t (W.takes (note_of n) v.office.mail.waiting) w v
  Took None = Moved t (W.takes_nothing v.office.mail.waiting) w v

  -- ── the initiator, and the coordinator ──

  abbrev pub RegisteredAs : Durability → Result Registered (Fault State) → Type 0
  RegisteredAs d a = Moved t (W.registers places d) w v × (registered_reply a ≡ (C.register t places d w.office.coord).reply)

  abbrev pub AskedCommit : Told → Type 0
  AskedCommit a = Moved t (W.asks_commit places t) w v × (told_reply (Ok a) ≡ (C.ask_commit t places t w.office.coord).reply)

  abbrev pub AskedRollback : Told → Type 0
  AskedRollback a = Moved t (W.asks_rollback places t) w v × (told_reply (Ok a) ≡ (C.ask_rollback t places t w.office.coord).reply)

  abbrev pub AskedOutcome : Outcome → Type 0
  AskedOutcome o = Moved t W.asks_outcome w v × (o ≡ C.outcome_of w.office.coord.state)

  -- the coordinator made this call, and answered so
  abbrev pub Headed : Call → Result ℕ (Fault State) → Type 0
  Headed c a = Moved t (W.coordinator c) w v × (reply_of a ≡ (head_does t c w.office.coord w.log).reply)

  abbrev pub HeadReceived : ℕ → Result ℕ (Fault State) → Type 0
  HeadReceived i a = (n : Note) × (taken_at i w ≡ Some n) × Headed (W.receives places n) a

  -- ── the durable participants ──

  abbrev pub Joined : ℕ → LogState → Type 0
  Joined s l = (seat_in w.office s ≡ awaited) × Moved t (W.joins s l) w v

  -- the participant that has joined at seat s made this call, and answered so
  abbrev pub Acted : ℕ → Call → Result ℕ (Fault PartState) → Type 0
  Acted s c a = (p : Part) × (seat_in w.office s ≡ joined p) × Moved t (W.participant s c) w v × (reply_of a ≡ (part_does t s c p).reply)

  abbrev pub ActReceived : ℕ → ℕ → Result ℕ (Fault PartState) → Type 0
  ActReceived s i a = (n : Note) × (taken_at i w ≡ Some n) × Acted s (W.receives places n) a

  abbrev pub Voted : ℕ → Ballot → Result ℕ (Fault PartState) → Type 0
  Voted s b a = (p : Part) × (seat_in w.office s ≡ joined p) × Moved t (W.votes s places b) w v × (reply_of a ≡ (part_votes t s places b p).reply)

-- ── why a step cannot be ──

abbrev pub NotGiven : ℕ → World → Type 0
NotGiven i w = (n : Notification) → given_at i w ≡ Some (note_of n) → ⊥

abbrev pub NotTaken : ℕ → World → Type 0
NotTaken i w = taken_at i w ≡ None

abbrev pub NotJoined : ℕ → World → Type 0
NotJoined s w = (p : Part) → seat_in w.office s ≡ joined p → ⊥

abbrev pub NotAwaited : ℕ → World → Type 0
NotAwaited s w = seat_in w.office s ≡ awaited → ⊥

abbrev pub CannotSay : ℕ → Kind → World → Type 0
CannotSay s k w = goes_up k ≡ true → seat_in w.office s ≡ volatile → ⊥

-- the participant that has joined at seat s restarts with the number n; or none has joined, and nothing changes
abbrev pub RestartedAt : {P : Type 0} → LogMeans P → List (Party P) → ℕ → World → World → ℕ → ℕ → Option (Unit {0}) → Type 0
RestartedAt {P} mp ps t w v s n (Some u) = (x : Store P) × (slice_index_or ps s Nobody ≡ Sits x) × Acted t w v s (W.restarts (mp.survives x.log n)) (Ok 0)
RestartedAt mp ps t w v s n None = NotJoined s w × (v ≡ w)
