-- The number of each fault, how many notifications were written all the same, and what it says.
use Rattle.std.specs.Prelude.{ℕ, List, [], ◌++◌, Some, Option, codes, decimal}
use Rattle.std.specs.Option.{option_map}
use Rattle.logs.specs.Numbers.{full_number}
use Rattle.words.specs.declared.fault.Fault.{Fault}
use Rattle.words.specs.declared.fault.Fault.TheVariants.{ShortOutbox, OtherRight, InvalidState, CannotRegister, OtherTransaction, Misdirected, UnknownTransaction, InvalidPeer, Inconsistent, LogFull, NoPlace}

module _ {S : Type 0} where
  abbrev pub fault_number : Fault S → ℕ
  fault_number ShortOutbox = 1
  fault_number OtherRight = 2
  fault_number InvalidState = 3
  fault_number CannotRegister = 4
  fault_number OtherTransaction = 5
  fault_number Misdirected = 6
  fault_number UnknownTransaction = 7
  fault_number (InvalidPeer seat state sent) = 8
  fault_number Inconsistent = 9
  fault_number (LogFull full sent) = full_number
  fault_number (NoPlace spare sent) = full_number

  abbrev pub fault_sent : Fault S → ℕ
  fault_sent ShortOutbox = 0
  fault_sent OtherRight = 0
  fault_sent InvalidState = 0
  fault_sent CannotRegister = 0
  fault_sent OtherTransaction = 0
  fault_sent Misdirected = 0
  fault_sent UnknownTransaction = 0
  fault_sent (InvalidPeer seat state sent) = sent
  fault_sent Inconsistent = 0
  fault_sent (LogFull full sent) = sent
  fault_sent (NoPlace spare sent) = sent

  abbrev pub fault_text : Fault S → List ℕ
  fault_text ShortOutbox = codes "the outbox is too short"
  fault_text OtherRight = codes "the closing right is for another transaction"
  fault_text InvalidState = codes "Invalid State: this state does not take the call"
  fault_text CannotRegister = codes "Cannot Register Participant: all seats are used"
  fault_text OtherTransaction = codes "the notification is of another transaction"
  fault_text Misdirected = codes "the notification is for another party"
  fault_text UnknownTransaction = codes "Unknown Transaction: the seat is not registered"
  fault_text (InvalidPeer seat state sent) = codes "Invalid State: a peer said what it cannot say now"
  fault_text Inconsistent = codes "Inconsistent Internal State: a peer contradicts the outcome"
  fault_text (LogFull full sent) = codes "the log is full"
  fault_text (NoPlace spare sent) = codes "the log has no place for the vote and its outcome"

  -- the values that it prints behind its text, where the state prints as `shown` says
  abbrev pub fault_values : (S → Option (List ℕ)) → Fault S → Option (List ℕ)
  fault_values shown ShortOutbox = Some []
  fault_values shown OtherRight = Some []
  fault_values shown InvalidState = Some []
  fault_values shown CannotRegister = Some []
  fault_values shown OtherTransaction = Some []
  fault_values shown Misdirected = Some []
  fault_values shown UnknownTransaction = Some []
  fault_values shown (InvalidPeer seat state sent) = option_map (λ text. codes " (seat " ++ (decimal seat.value ++ (codes ", in " ++ (text ++ codes ")")))) (shown state)
  fault_values shown Inconsistent = Some []
  fault_values shown (LogFull full sent) = Some (codes " (capacity " ++ (decimal full.capacity ++ codes ")"))
  fault_values shown (NoPlace spare sent) = Some (codes " (" ++ (decimal spare ++ codes " left)"))

  -- what it prints: its number, its text and its values
  abbrev pub fault_line : (S → Option (List ℕ)) → Fault S → Option (List ℕ)
  fault_line shown x = option_map (λ values. codes "fault " ++ (decimal (fault_number x) ++ (codes ", " ++ (fault_text x ++ values)))) (fault_values shown x)
