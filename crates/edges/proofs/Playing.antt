-- One call behind others.
use Rattle.std.proofs.Common.{◌≡◌, ℕ, zero, suc, ◌+◌, List, [], ◌∷◌, ◌++◌, replicate, ◌∙◌, sym, ap, subst, refl, add-one}
use Rattle.agreement.specs.CoordinatorRules.{Head}
use Rattle.agreement.specs.Turns.{done, seated, fails, cannot_register, report_of}
use Rattle.agreement.specs.declared.coordinator.State.{State}
use Rattle.words.specs.declared.fault.Fault.{Fault}
use Rattle.words.specs.declared.fault.Fault.TheVariants.{ShortOutbox, OtherRight, InvalidState, CannotRegister, OtherTransaction, Misdirected, UnknownTransaction, InvalidPeer, Inconsistent, LogFull, NoPlace}
use Rattle.edges.specs.Expected.{Case}
use Rattle.edges.specs.Stages.{Makes, Shows, Stands, along, played, turn_of, reply_in, opening}
use Rattle.edges.specs.declared.stage.Answer.{Answer}
use Rattle.edges.specs.declared.stage.Answer.TheVariants.{Seated, Told, Sent, Refused}
use Rattle.edges.specs.declared.stage.Call.{Call}
use Rattle.edges.specs.declared.stage.Shown.{Shown}
use Rattle.edges.specs.declared.stage.Stage.{Stage}

along_more : (h : Head) (cs : List Call) (c : Call) → along h (cs ++ c ∷ []) ≡ (turn_of c (along h cs)).after
along_more h [] c = refl
along_more h (b ∷ cs) c = along_more (turn_of b h).after cs c

-- the stage stands behind one call more
pub onward : {behind : List Call} {c : Call} {s d : Stage} {shown : Shown} → Stands behind s → Makes c s d shown → Stands (behind ++ c ∷ []) d
onward {behind} {c} {s} {d} {shown} e m =
    record { head = m.after ∙ ap (λ (h : Head). (turn_of c h).after) e.head ∙ sym (along_more opening behind c) }

-- once more
more : (n : ℕ) (c : Call) → replicate n c ++ c ∷ [] ≡ replicate (suc n) c
more zero c = refl
more (suc n) c = ap (λ (cs : List Call). c ∷ cs) (more n c)

pub again : (n : ℕ) {c : Call} {s d : Stage} {shown : Shown} → Stands (replicate n c) s → Makes c s d shown → Stands (replicate (n + 1) c) d
again n {c} {s} {d} {shown} e m = subst (λ (cs : List Call). Stands cs d) (more n c ∙ ap (λ (k : ℕ). replicate k c) (sym (add-one n))) (onward e m)

-- what was shown was shown there
pub there : {behind : List Call} {c : Call} {s d : Stage} {shown : Shown} → Stands behind s → Makes c s d shown → Shows c (played behind) shown
there {behind} {c} {s} {d} {shown} e m = subst (λ (h : Head). Shows c h shown) e.head m.shows

-- what answers so
said_sent : (y : Answer) (n : ℕ) → reply_in y ≡ done n → y ≡ Sent n
said_sent (Sent m) n e = cc
said_sent (Seated s m) n e = cc
said_sent (Told o m) n e = cc
said_sent (Refused f) n e = cc

said_seated : (y : Answer) (s n : ℕ) → reply_in y ≡ seated s n → y ≡ Seated s n
said_seated (Sent m) s n e = cc
said_seated (Seated r m) s n e = cc
said_seated (Told o m) s n e = cc
said_seated (Refused f) s n e = cc

no_seat : (f : Fault State) → report_of f ≡ cannot_register → f ≡ CannotRegister
no_seat ShortOutbox e = cc
no_seat OtherRight e = cc
no_seat InvalidState e = cc
no_seat CannotRegister e = refl
no_seat OtherTransaction e = cc
no_seat Misdirected e = cc
no_seat UnknownTransaction e = cc
no_seat (InvalidPeer s x n) e = cc
no_seat Inconsistent e = cc
no_seat (LogFull full n) e = cc
no_seat (NoPlace k n) e = cc

said_no_seat : (y : Answer) → reply_in y ≡ fails cannot_register → y ≡ Refused CannotRegister
said_no_seat (Sent m) e = cc
said_no_seat (Seated r m) e = cc
said_no_seat (Told o m) e = cc
said_no_seat (Refused f) e = let g : report_of f ≡ cannot_register = cc in ap Refused (no_seat f g)

-- the cases, by what their turns reply
pub sent_case : {behind : List Call} {c : Call} {shown : Shown} (n : ℕ) (x : State) → Shows c (played behind) shown
    → (turn_of c (played behind)).reply ≡ done n → (turn_of c (played behind)).after.coord.state ≡ x → Case behind c (Sent n) x shown
sent_case {behind} {c} {shown} n x s r e = record { turn = s; answered = said_sent shown.answer n (s.reply ∙ r); left = s.after.state ∙ e }

pub seated_case : {behind : List Call} {c : Call} {shown : Shown} (k n : ℕ) (x : State) → Shows c (played behind) shown
    → (turn_of c (played behind)).reply ≡ seated k n → (turn_of c (played behind)).after.coord.state ≡ x → Case behind c (Seated k n) x shown
seated_case {behind} {c} {shown} k n x s r e = record { turn = s; answered = said_seated shown.answer k n (s.reply ∙ r); left = s.after.state ∙ e }

pub no_seat_case : {behind : List Call} {c : Call} {shown : Shown} (x : State) → Shows c (played behind) shown
    → (turn_of c (played behind)).reply ≡ fails cannot_register → (turn_of c (played behind)).after.coord.state ≡ x → Case behind c (Refused CannotRegister) x shown
no_seat_case {behind} {c} {shown} x s r e = record { turn = s; answered = said_no_seat shown.answer (s.reply ∙ r); left = s.after.state ∙ e }
