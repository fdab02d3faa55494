-- The world of one transaction, and everything that may happen in it.
use Rattle.std.specs.Prelude.{◌≡◌, ℕ, true, List, [], ◌∷◌, ◌++◌, replicate, ◌≢◌, slice_index_or, slice_set}
use Rattle.lines.specs.Lines.{In, Within}
use Rattle.seats.specs.Sizes.{seat_count}
use Rattle.words.specs.Kinds.{goes_up}
use Rattle.words.specs.Notes.{Note}
use Rattle.agreement.specs.CoordinatorRules.{Coord, CoordTurn, HeadTurn, head, opened}
use Rattle.agreement.specs.CoordinatorRules as C
use Rattle.agreement.specs.Logs.{LogState, Fresh}
use Rattle.agreement.specs.Names.{Durability, Volatile, Durable, State, Working, Outcome, Ballot}
use Rattle.agreement.specs.ParticipantRules.{Part, PartTurn, part}
use Rattle.agreement.specs.ParticipantRules as P
use Rattle.agreement.specs.Turns.{Reply, done, seated, tells, fails}

-- who sits at a seat: nobody; a volatile participant; a durable one that has not joined yet; a durable one that has
pub data Party : Type 0 where
  nobody : Party
  volatile : Party
  awaited : Party
  joined : Part → Party

-- what calls gave to be posted, in the order in which they gave it; what was posted and what was taken from the line, the newest first; and what waits on it
pub record Mail : Type 0 where
  pub given : List Note
  pub posted : List Note
  pub taken : List Note
  pub waiting : List Note

-- a coordinator, those at its seats, and the line between them
pub record Office : Type 0 where
  pub coord : Coord
  pub seats : List Party
  pub mail : Mail

-- the office, the coordinator's log, and what the initiator was told, the newest first
pub record World : Type 0 where
  pub log : LogState
  pub office : Office
  pub told : List Outcome

abbrev pub seat_in : Office → ℕ → Party
seat_in q s = slice_index_or q.seats s nobody

-- ── what a call changes ──

abbrev pub giving : List Note → Mail → Mail
giving ns m = record { given = m.given ++ ns; posted = m.posted; taken = m.taken; waiting = m.waiting }

abbrev pub office : Coord → List Party → Mail → Office
office c ps m = record { coord = c; seats = ps; mail = m }

abbrev pub world : LogState → Office → List Outcome → World
world l q os = record { log = l; office = q; told = os }

abbrev pub by_head : World → HeadTurn → World
by_head w turn =
    world turn.after.log (office turn.after.coord w.office.seats (giving turn.sent w.office.mail)) w.told

-- the initiator's calls tell it the outcome, unless they fail
abbrev pub told_by : Reply State → List Outcome → List Outcome
told_by (done n) os = os
told_by (seated s n) os = os
told_by (tells o n) os = o ∷ os
told_by (fails f) os = os

abbrev pub by_initiator : World → HeadTurn → World
by_initiator w turn = let v = by_head w turn in world v.log v.office (told_by turn.reply w.told)

-- a call that has no log at hand
abbrev pub apart : LogState → CoordTurn → HeadTurn
apart l turn = record { after = head turn.after l; sent = turn.sent; reply = turn.reply }

abbrev pub by_seat : Office → ℕ → Part → List Note → Office
by_seat q s p ns = office q.coord (slice_set q.seats s (joined p)) (giving ns q.mail)

abbrev pub new_party : Durability → Party
new_party Volatile = volatile
new_party Durable = awaited

-- a seat that was given is taken
abbrev pub seats_by : Durability → Reply State → List Party → List Party
seats_by d (done n) ps = ps
seats_by d (seated s n) ps = slice_set ps s (new_party d)
seats_by d (tells o n) ps = ps
seats_by d (fails f) ps = ps

abbrev pub by_register : Durability → Office → CoordTurn → Office
by_register d q turn = office turn.after (seats_by d turn.reply q.seats) (giving turn.sent q.mail)

abbrev pub by_join : Office → ℕ → LogState → Party → Office
by_join q s l nobody = q
by_join q s l volatile = q
by_join q s l awaited = by_seat q s (part Working l) []
by_join q s l (joined p) = q

abbrev pub by_part : (Part → PartTurn) → Office → ℕ → Party → Office
by_part f q s nobody = q
by_part f q s volatile = q
by_part f q s awaited = q
by_part f q s (joined p) = by_seat q s (f p).after (f p).sent

abbrev pub by_mail : World → Mail → World
by_mail w m = world w.log (office w.office.coord w.office.seats m) w.told

-- ── the moves ──

-- the calls that both parties have; `room` is the length of the outbox, `kept` how many loose records outlast the restart
pub data Call : Type 0 where
  expires : (room : ℕ) → Call
  settles : (room : ℕ) → Call
  resends : (room : ℕ) → Call
  receives : (room : ℕ) → Note → Call
  restarts : (kept : ℕ) → Call

-- `right` is the transaction of the closing right, `seat` a participant's, `after` what waits on the line afterwards
pub data Move : Type 0 where
  registers : (room : ℕ) → Durability → Move
  asks_commit : (room right : ℕ) → Move
  asks_rollback : (room right : ℕ) → Move
  asks_outcome : Move
  coordinator : Call → Move
  joins : (seat : ℕ) → LogState → Move
  votes : (seat room : ℕ) → Ballot → Move
  participant : (seat : ℕ) → Call → Move
  posts : Note → (after : List Note) → Move
  takes : Note → (after : List Note) → Move
  takes_nothing : (after : List Note) → Move

-- parties receive only what was taken, by whomever and however often
abbrev pub Receivable : Call → Mail → Type 0
Receivable (expires room) m = Unit {0}
Receivable (settles room) m = Unit {0}
Receivable (resends room) m = Unit {0}
Receivable (receives room n) m = In n m.taken
Receivable (restarts k) m = Unit {0}

-- in the world of transaction t
module _ (t : ℕ) where
  abbrev pub head_does : Call → Coord → LogState → HeadTurn
  head_does (expires room) c l = apart l (C.expire t room c)
  head_does (settles room) c l = C.settle t room c l
  head_does (resends room) c l = apart l (C.resend t room c)
  head_does (receives room n) c l = apart l (C.receive t room n c)
  head_does (restarts k) c l = C.restart t k l

  abbrev pub part_does : ℕ → Call → Part → PartTurn
  part_does s (expires room) p = P.expire t s room p.state p.log
  part_does s (settles room) p = P.settle t s room p.state p.log
  part_does s (resends room) p = P.resend t s room p.state p.log
  part_does s (receives room n) p = P.receive t s room n p.state p.log
  part_does s (restarts k) p = P.restart t s k p.log

  abbrev pub part_votes : ℕ → ℕ → Ballot → Part → PartTurn
  part_votes s room b p = P.vote t s room b p.state p.log

  -- what a move makes of the world; a call of a participant that has not joined is none
  abbrev pub made : Move → World → World
  made (registers room d) w = world w.log (by_register d w.office (C.register t room d w.office.coord)) w.told
  made (asks_commit room r) w = by_initiator w (apart w.log (C.ask_commit t room r w.office.coord))
  made (asks_rollback room r) w = by_initiator w (apart w.log (C.ask_rollback t room r w.office.coord))
  made asks_outcome w = by_initiator w (apart w.log (C.ask_outcome w.office.coord))
  made (coordinator c) w = by_head w (head_does c w.office.coord w.log)
  made (joins s l) w = world w.log (by_join w.office s l (seat_in w.office s)) w.told
  made (votes s room b) w = world w.log (by_part (part_votes s room b) w.office s (seat_in w.office s)) w.told
  made (participant s c) w = world w.log (by_part (part_does s c) w.office s (seat_in w.office s)) w.told
  made (posts n after) w =
      let m = w.office.mail in by_mail w (record { given = m.given; posted = n ∷ m.posted; taken = m.taken; waiting = after })
  made (takes n after) w =
      let m = w.office.mail in by_mail w (record { given = m.given; posted = m.posted; taken = n ∷ m.taken; waiting = after })
  made (takes_nothing after) w =
      let m = w.office.mail in by_mail w (record { given = m.given; posted = m.posted; taken = m.taken; waiting = after })

  -- a post was given by an earlier call, however long ago and however often posted since; or it is a volatile participant's own,
  -- true or not; or it is of another transaction
  pub data Postable (q : Office) (n : Note) : Type 0 where
    was_given : In n q.mail.given → Postable q n
    volatile's : goes_up n.kind ≡ true → seat_in q n.seat ≡ volatile → Postable q n
    another's : (n.transaction ≢ t) → Postable q n

  -- when a move is possible
  abbrev pub Possible : Move → World → Type 0
  Possible (registers room d) w = Unit {0}
  Possible (asks_commit room r) w = Unit {0}
  Possible (asks_rollback room r) w = Unit {0}
  Possible asks_outcome w = Unit {0}
  Possible (coordinator c) w = Receivable c w.office.mail
  Possible (joins s l) w = Fresh t l
  Possible (votes s room b) w = Unit {0}
  Possible (participant s c) w = Receivable c w.office.mail
  Possible (posts n after) w = Postable w.office n × Within after (w.office.mail.waiting ++ n ∷ [])
  Possible (takes n after) w = In n w.office.mail.waiting × Within after w.office.mail.waiting
  Possible (takes_nothing after) w = Within after w.office.mail.waiting

-- T just opened, with this log, and with this waiting on the line
abbrev pub at_first : LogState → List Note → World
at_first l waiting = world l (office opened (replicate seat_count nobody) (record { given = []; posted = []; taken = []; waiting = waiting })) []

-- nothing of transaction t waits
abbrev pub Clear : ℕ → List Note → Type 0
Clear t waiting = (n : Note) → In n waiting → n.transaction ≢ t

-- the worlds that a run of transaction t comes to
pub data Reached (t : ℕ) : World → Type 0 where
  opening : (l : LogState) (waiting : List Note) → Fresh t l → Clear t waiting → Reached t (at_first l waiting)
  moving : (w : World) (m : Move) → Reached t w → Possible t m w → Reached t (made t m w)
