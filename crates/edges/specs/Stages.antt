-- The calls of a coordinator on its stage, as turns of the rules, and what is shown of them.
use Rattle.std.specs.Prelude.{◌≡◌, List, [], ◌∷◌, None, map, length, min, slice_index_or}
use Rattle.std.specs.List.{range_with_len}
use Rattle.agreement.specs.CoordinatorRules.{CoordTurn, Head, HeadTurn, head, opened, register, ask_commit, receive, expire, settle, restart}
use Rattle.agreement.specs.Logs.{LogState}
use Rattle.agreement.specs.Names.{Place}
use Rattle.agreement.specs.Turns.{Reply, done, seated, tells, fails, report_of, note}
use Rattle.agreement.specs.declared.coordinator.State.{State}
use Rattle.coordinator.specs.Calls.{coord_of}
use Rattle.logs.specs.Sizes.{tray_length}
use Rattle.logs.specs.Trays.{safe_in, loose_in}
use Rattle.words.specs.Notes.{row_of}
use Rattle.words.specs.Outboxes.{laid}
use Rattle.words.specs.declared.row.Row.{Row}
use Rattle.edges.specs.declared.stage.Answer.{Answer}
use Rattle.edges.specs.declared.stage.Answer.TheVariants.{Seated, Told, Sent, Refused}
use Rattle.edges.specs.declared.stage.Call.{Call}
use Rattle.edges.specs.declared.stage.Call.TheVariants.{Register, AskCommit, Hear, Expire, Settle, Restart}
use Rattle.edges.specs.declared.stage.Shown.{Shown}
use Rattle.edges.specs.declared.stage.Stage.{Stage}
use Rattle.edges.specs.declared.stage.View.{View}

-- a turn that touches no log, beside one
abbrev pub beside : LogState → CoordTurn → HeadTurn
beside l turn = record { after = head turn.after l; sent = turn.sent; reply = turn.reply }

-- the rules' turn of a call: the transaction is 7, and the outbox has 16 places
abbrev pub turn_of : Call → Head → HeadTurn
turn_of (Register d) h = beside h.log (register 7 16 d h.coord)
turn_of AskCommit h = beside h.log (ask_commit 7 16 7 h.coord)
turn_of (Hear s k) h = beside h.log (receive 7 16 (note 7 s k) h.coord)
turn_of Expire h = beside h.log (expire 7 16 h.coord)
turn_of Settle h = settle 7 16 h.coord h.log
turn_of (Restart n) h = restart 7 (min (length h.log.loose) n) h.log

-- the transaction just opened, and its log is blank
abbrev pub opening : Head
opening = head opened (record { safe = []; loose = []; capacity = tray_length })

-- how a coordinator and its log stand after these calls
abbrev pub along : Head → List Call → Head
along h [] = h
along h (c ∷ cs) = along (turn_of c h).after cs

abbrev pub played : List Call → Head
played cs = along opening cs

abbrev pub head_of : Stage → Head
head_of s = head (coord_of s.coordinator) (record { safe = safe_in s.log; loose = loose_in s.log; capacity = tray_length })

-- the stage stands as it does behind these calls
pub record Stands (behind : List Call) (s : Stage) : Type 0 where
  pub head : head_of s ≡ played behind

abbrev pub reply_in : Answer → Reply State
reply_in (Seated s n) = seated s n
reply_in (Told o n) = tells o n
reply_in (Sent n) = done n
reply_in (Refused f) = fails (report_of f)

-- what is told of a table: the place of each seat
abbrev pub told_of : List Place → List Place
told_of ps = map (λ s. slice_index_or ps s None) (range_with_len 0 16)

-- what is to be seen of a coordinator that stands so
pub record Views (h : Head) (v : View) : Type 0 where
  pub state : v.state ≡ h.coord.state
  pub table : v.table ≡ told_of h.coord.table
  pub safe : v.safe ≡ length h.log.safe
  pub loose : v.loose ≡ length h.log.loose

-- a call was made where the coordinator stood so, and all that was seen is as its turn says
pub record Shows (c : Call) (h : Head) (s : Shown) : Type 0 where
  pub asked : s.call ≡ c
  pub before : Views h s.before
  pub reply : reply_in s.answer ≡ (turn_of c h).reply
  pub after : Views (turn_of c h).after s.after
  pub rows : s.after.outbox ≡ laid (map row_of (turn_of c h).sent) s.before.outbox

-- and the stage stands so behind it
pub record Makes (c : Call) (s d : Stage) (shown : Shown) : Type 0 where
  pub shows : Shows c (head_of s) shown
  pub after : head_of d ≡ (turn_of c (head_of s)).after
  pub old : shown.before.outbox ≡ s.outbox
  pub new : shown.after.outbox ≡ d.outbox

-- a row that no call writes
abbrev pub mark : Row
mark = record { transaction = 9; seat = 9; kind = 9 }
