-- A vote of a participant in transaction 7 at seat 0, by the rules.
use Rattle.std.specs.Prelude.{◌≡◌, ℕ, ◌-◌, [], ◌∷◌, map, replicate}
use Rattle.agreement.specs.Logs.{LogState, spare as spare_of}
use Rattle.agreement.specs.ParticipantRules.{Part, PartTurn, receive, vote}
use Rattle.agreement.specs.Turns.{note, reply_of}
use Rattle.agreement.specs.declared.participant.Ballot.{Ballot}
use Rattle.agreement.specs.declared.participant.State.TheVariants.{Working}
use Rattle.logs.specs.Sizes.{tray_length}
use Rattle.records.specs.Recs.{Rec}
use Rattle.words.specs.Notes.{row_of}
use Rattle.words.specs.Outboxes.{laid}
use Rattle.words.specs.declared.kind.Kind.TheVariants.{Prepare}
use Rattle.words.specs.Rows.{blank_row}
use Rattle.edges.specs.declared.storing.Cast.{Cast}

-- a record of another transaction
abbrev pub filler : Rec
filler = record { transaction = 8; kind = 1; seats = 0 }

-- a log with n places to spare
abbrev pub log_with : ℕ → LogState
log_with n = record { safe = []; loose = replicate (tray_length - n) filler; capacity = tray_length }

-- it was asked to prepare
abbrev pub prepared : ℕ → Part
prepared n = (receive 7 0 1 (note 7 0 Prepare) Working (log_with n)).after

-- the rules' turn of its vote
abbrev pub vote_turn : Ballot → ℕ → PartTurn
vote_turn b n = vote 7 0 1 b (prepared n).state (prepared n).log

-- it voted with n places to spare, and all that was seen is as the turn says
pub record Casts (b : Ballot) (n : ℕ) (c : Cast) : Type 0 where
  pub voted : c.ballot ≡ b
  pub state_before : c.before.state ≡ (prepared n).state
  pub outbox_before : c.before.outbox ≡ blank_row ∷ []
  pub spare_before : c.before.spare ≡ spare_of (prepared n).log
  pub reply : reply_of c.answer ≡ (vote_turn b n).reply
  pub state : c.after.state ≡ (vote_turn b n).after.state
  pub outbox : c.after.outbox ≡ laid (map row_of (vote_turn b n).sent) (blank_row ∷ [])
  pub spare : c.after.spare ≡ spare_of (vote_turn b n).after.log
