-- The world that a desk is in.
use Rattle.std.specs.Prelude.{◌≡◌, ℕ, true, Some, None, Option, is_some, map, reverse}
use Rattle.agreement.specs.Logs.{log_of}
use Rattle.agreement.specs.Names.{Kind, Prepare}
use Rattle.agreement.specs.ParticipantRules.{Part, part}
use Rattle.agreement.specs.Turns.{note}
use Rattle.agreement.specs.World.{World, world, office, Mail, at_first}
use Rattle.agreement.specs.World as W
use Rattle.agreement.specs.declared.coordinator.Durability.{Durability}
use Rattle.agreement.specs.declared.coordinator.Durability.TheVariants as D
use Rattle.agreement.specs.declared.participant.State.{State as PartState}
use Rattle.coordinator.specs.Calls.{coord_of}
use Rattle.desks.specs.declared.desk.Desk.{Desk}
use Rattle.desks.specs.declared.desk.Party.{Party}
use Rattle.desks.specs.declared.desk.Party.TheVariants.{Nobody, Volatile, Awaited, Joined}
use Rattle.desks.specs.declared.desk.Store.{Store}
use Rattle.lines.specs.declared.line.Line.{Ghosts as LineMeans}
use Rattle.logs.specs.declared.log.Log.{Ghosts as LogMeans}
use Rattle.seats.specs.Sizes.{seat_count}
use Rattle.words.specs.Kinds.{kind_at}
use Rattle.words.specs.Notes.{Note, note_of}
use Rattle.words.specs.declared.row.Row.{Row}

-- what a row says that a call gave; one with a number of no kind is no notification's, and has a seat that there is not
abbrev pub plain_by : Row → Option Kind → Note
plain_by w None = note w.transaction seat_count Prepare
plain_by w (Some k) = note w.transaction w.seat k

abbrev pub plain_note : Row → Note
plain_note w = plain_by w (kind_at w.kind)

-- who sits at a seat that was just given
abbrev pub newcomer : {P : Type 0} → Durability → Party P
newcomer D.Volatile = Volatile
newcomer D.Durable = Awaited

module _ {P : Type 0} (mp : LogMeans P) where
  abbrev pub store_of : Store P → Part
  store_of s = part s.participant.state (log_of mp s.log)

  abbrev pub party_of : Party P → W.Party
  party_of Nobody = W.nobody
  party_of Volatile = W.volatile
  party_of Awaited = W.awaited
  party_of (Joined s) = W.joined (store_of s)

module _ {C P N : Type 0} (mc : LogMeans C) (mp : LogMeans P) (mn : LineMeans N) where
  abbrev pub mail_of : Desk C P N → Mail
  mail_of d = record {
    given = map plain_note d.given.items;
    posted = reverse (map note_of d.posted.items);
    taken = reverse (map note_of d.taken.items);
    waiting = mn.waiting d.line;
  }

  abbrev pub world_of : Desk C P N → World
  world_of d = world (log_of mc d.log) (office (coord_of d.coordinator) (map (party_of mp) d.seats.items) (mail_of d)) (reverse d.told.items)

  -- a desk at which transaction t was just opened, with this log and this line
  pub record Opened (t : ℕ) (log : C) (line : N) (d : Desk C P N) : Type 0 where
    pub transaction : d.transaction ≡ t
    pub right : is_some d.right ≡ true
    pub world : world_of d ≡ at_first (log_of mc log) (mn.waiting line)
    pub own_log : d.log ≡ log
    pub own_line : d.line ≡ line

  -- what the worlds of two desks, one before a step and one behind it, are to each other
  abbrev pub Between : Desk C P N → Desk C P N → (World → World → Type 0) → Type 0
  Between d e relation = relation (world_of d) (world_of e)

-- the state of the participant that has joined there
abbrev pub state_in : W.Party → Option PartState
state_in W.nobody = None
state_in W.volatile = None
state_in W.awaited = None
state_in (W.joined p) = Some p.state
