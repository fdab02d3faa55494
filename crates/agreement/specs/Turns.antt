-- What a call of either party does, in plain values.
use Rattle.std.specs.Prelude.{ℕ, cond, List, [], length, Ok, Err, Result, nat_lt}
use Rattle.words.specs.Notes.{Note}
use Rattle.words.specs.declared.fault.Fault.{Fault}
use Rattle.words.specs.declared.fault.Fault.TheVariants.{ShortOutbox, OtherRight, InvalidState, CannotRegister, OtherTransaction, Misdirected, UnknownTransaction, InvalidPeer, Inconsistent, LogFull, NoPlace}
use Rattle.agreement.specs.Names.{Kind, Outcome}

-- what a fault says: a seat by its number, the log's own fault by its capacity; S is the state of the party
pub data Report (S : Type 0) : Type 0 where
  short_outbox : Report S
  other_right : Report S
  invalid_state : Report S
  cannot_register : Report S
  other_transaction : Report S
  misdirected : Report S
  unknown_transaction : Report S
  invalid_peer : (seat : ℕ) → (state : S) → (sent : ℕ) → Report S
  inconsistent : Report S
  log_full : (capacity : ℕ) → (sent : ℕ) → Report S
  no_place : (spare : ℕ) → (sent : ℕ) → Report S

-- what a call answers: how many notifications it gives, and with it the seat that was given or the outcome that was told; or a fault
pub data Reply (S : Type 0) : Type 0 where
  done : (sent : ℕ) → Reply S
  seated : (seat : ℕ) → (sent : ℕ) → Reply S
  tells : (outcome : Outcome) → (sent : ℕ) → Reply S
  fails : Report S → Reply S

module _ {S : Type 0} where
  abbrev pub report_of : Fault S → Report S
  report_of ShortOutbox = short_outbox
  report_of OtherRight = other_right
  report_of InvalidState = invalid_state
  report_of CannotRegister = cannot_register
  report_of OtherTransaction = other_transaction
  report_of Misdirected = misdirected
  report_of UnknownTransaction = unknown_transaction
  report_of (InvalidPeer seat state sent) = invalid_peer seat.value state sent
  report_of Inconsistent = inconsistent
  report_of (LogFull full sent) = log_full full.capacity sent
  report_of (NoPlace spare sent) = no_place spare sent

  -- what a call of the code answered
  abbrev pub reply_of : Result ℕ (Fault S) → Reply S
  reply_of (Ok n) = done n
  reply_of (Err f) = fails (report_of f)

-- what a call leaves: the party (with its log, where it lent one), the notifications that it gives, in their order, and its answer
pub record Turn (P S : Type 0) : Type 0 where
  pub after : P
  pub sent : List Note
  pub reply : Reply S

module _ {P S : Type 0} where
  abbrev pub gives : P → List Note → Turn P S
  gives p ns = record { after = p; sent = ns; reply = done (length ns) }

  -- a refusal changes nothing
  abbrev pub refuses : P → Report S → Turn P S
  refuses p f = record { after = p; sent = []; reply = fails f }

  -- the first check of every call that is lent an outbox of so many places
  abbrev pub in_room : ℕ → ℕ → P → Turn P S → Turn P S
  in_room room least p turn = cond (nat_lt room least) (refuses p short_outbox) turn

abbrev pub note : ℕ → ℕ → Kind → Note
note t s k = record { transaction = t; seat = s; kind = k }
