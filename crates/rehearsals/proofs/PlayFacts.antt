-- Every move that is played is a move of the world, so that a rehearsal comes only to worlds that are reached.
use Rattle.std.proofs.Common.{◌≡◌, ℕ, List, [], ◌∷◌, ◌++◌, ◌+◌, ◌<◌, length, take, get_or, Some, None, Option, Ok, Err, Result, MatchResult, is_err, Bool, false, sym, ap, subst, ◌∙◌, inl, inr, true}
use Rattle.agreement.proofs.Invariant as I
use Rattle.agreement.specs.Logs.{Fresh, log_of}
use Rattle.agreement.specs.World.{World, Reached, opening, moving, Clear}
use Rattle.agreement.specs.World as W
use Rattle.rehearsals.specs.Plays.{Agrees, Happened, Heads, Acts, Plays, Step, Opened, Resting, Halts, scene_of}
use Rattle.desks.specs.Steps.{Moved, Took}
use Rattle.rehearsals.specs.declared.moves.Call.{Call}
use Rattle.rehearsals.specs.declared.moves.Call.TheVariants.{Expire, Settle, Resend, Receive, Restart}
use Rattle.rehearsals.specs.declared.moves.Move.{Move}
use Rattle.rehearsals.specs.declared.moves.Move.TheVariants.{Register, Join, AskCommit, AskRollback, AskOutcome, Coordinator, Vote, Participant, Post, Say, Take}
use Rattle.rehearsals.specs.declared.rehearsal.Rehearsal.{Rehearsal}
use Rattle.rehearsals.specs.declared.trace.Event.{Event}
use Rattle.lines.proofs.MemberFacts.{chain_more}
use Rattle.lines.specs.Lines.{Chain}
use Rattle.std.proofs.lemmas.Bool.{false≢true, true≢false}
use Rattle.std.proofs.lemmas.List.{take_more}
use Rattle.lines.specs.declared.line.Line.{Ghosts as LineMeans}
use Rattle.logs.specs.declared.log.Log.{Ghosts as LogMeans}
use Rattle.words.specs.declared.notification.Notification.{Notification}

-- what holds of a result that failed, and of one that did not
pub failed : {A B : Type 0} (F : A → Type 0) (G : B → Type 0) (r : Result A B) (b : Bool) → b ≡ is_err r → b ≡ true → MatchResult r F G → (y : B) × G y
failed F G (Err y) b e h g = (y, g)
failed F G (Ok x) b e h g = absurd (false≢true (sym e ∙ h))

pub went : {A B : Type 0} (F : A → Type 0) (G : B → Type 0) (r : Result A B) (b : Bool) → b ≡ is_err r → b ≡ false → MatchResult r F G → (x : A) × F x
went F G (Ok x) b e h f = (x, f)
went F G (Err y) b e h f = absurd (true≢false (sym e ∙ h))

moved : (t : ℕ) (m : W.Move) (w v : World) → Moved t m w v → Reached t w → Reached t v
moved t m w v h r = subst (λ u. Reached t u) (sym h.made) (moving w m r h.possible)

rested : (t : ℕ) (w v : World) → v ≡ w → Reached t w → Reached t v
rested t w v e r = subst (λ u. Reached t u) (sym e) r

took : (t : ℕ) (w v : World) (o : Option Notification) → Took t w v o → Reached t w → Reached t v
took t w v None h r = moved t _ w v h r
took t w v (Some n) h r = moved t _ w v h r

pub agrees : (t : ℕ) (w : World) → Reached t w → Agrees t w
agrees t w r = I.agreement t w r

module _ {C P N : Type 0} (mc : LogMeans C) (mp : LogMeans P) (mn : LineMeans N) where
  -- the rehearsal stands in a world that a run of its transaction comes to
  abbrev pub Sound : Rehearsal C P N → Type 0
  Sound r = Reached r.desk.transaction (scene_of mc mp mn r)

  module _ (a b : Rehearsal C P N) where
    abbrev t : ℕ
    t = a.desk.transaction

    abbrev w : World
    w = scene_of mc mp mn a

    abbrev v : World
    v = scene_of mc mp mn b

    heads : (c : Call) (e : Event) → Heads mc mp mn a b c e → Reached t w → Reached t v
    heads Expire e h r = moved t _ w v h.2.0 r
    heads Settle e h r = moved t _ w v h.2.0 r
    heads Resend e h r = moved t _ w v h.2.0 r
    heads (Receive i) e (inl h) r = moved t _ w v h.2.2.0 r
    heads (Receive i) e (inr h) r = rested t w v h.2.0 r
    heads (Restart n) e h r = moved t _ w v h.2.0 r

    acts : (s : ℕ) (c : Call) (e : Event) → Acts mc mp mn a b s c e → Reached t w → Reached t v
    acts s Expire e (inl h) r = moved t _ w v h.2.2 r
    acts s Expire e (inr h) r = rested t w v h.2.0 r
    acts s Settle e (inl h) r = moved t _ w v h.2.2 r
    acts s Settle e (inr h) r = rested t w v h.2.0 r
    acts s Resend e (inl h) r = moved t _ w v h.2.2 r
    acts s Resend e (inr h) r = rested t w v h.2.0 r
    acts s (Receive i) e (inl h) r = moved t _ w v h.2.2.2 r
    acts s (Receive i) e (inr h) r = rested t w v h.2.0 r
    acts s (Restart n) e (inl h) r = moved t _ w v h.2.1.2.2 r
    acts s (Restart n) e (inr h) r = rested t w v h.2.0 r

    happened : (m : Move) (e : Event) → Happened mc mp mn a b m e → Reached t w → Reached t v
    happened (Register d) e h r = moved t _ w v h.2.0 r
    happened (Join s) e (inl h) r = moved t _ w v h.2.2.1 r
    happened (Join s) e (inr h) r = rested t w v h.2.0 r
    happened AskCommit e (inl h) r = moved t _ w v h.2.1.0 r
    happened AskCommit e (inr h) r = rested t w v h.2.0 r
    happened AskRollback e (inl h) r = moved t _ w v h.2.1.0 r
    happened AskRollback e (inr h) r = rested t w v h.2.0 r
    happened AskOutcome e h r = moved t _ w v h.2.0 r
    happened (Coordinator c) e h r = heads c e h r
    happened (Vote s x) e (inl h) r = moved t _ w v h.2.2 r
    happened (Vote s x) e (inr h) r = rested t w v h.2.0 r
    happened (Participant s c) e h r = acts s.value c e h r
    happened (Post i) e (inl h) r = moved t _ w v h.1.2 r
    happened (Post i) e (inr h) r = rested t w v h.2.0 r
    happened (Say s k) e (inl h) r = moved t _ w v h.1.2 r
    happened (Say s k) e (inr h) r = rested t w v h.2.0 r
    happened Take e h r = took t w v h.0 h.2 r

    stays : (m : Move) → Plays mc mp mn a b m → Sound a → Sound b
    stays m p r = subst (λ (u : ℕ). Reached u v) (sym p.transaction) (happened m p.entry.event p.happened r)

  -- what was played keeps its transaction, and comes to a world that is reached
  pub same : (a b : Rehearsal C P N) (ms : List Move) → Chain (Step mc mp mn) a ms b → b.desk.transaction ≡ a.desk.transaction
  same a b [] e = ap (λ r. r.desk.transaction) (sym e)
  same a b (m ∷ ms) h = same h.0 b ms h.2 ∙ h.1.transaction

  pub sound : (a b : Rehearsal C P N) (ms : List Move) → Chain (Step mc mp mn) a ms b → Sound a → Sound b
  sound a b [] e r = subst Sound e r
  sound a b (m ∷ ms) h r = sound h.0 b ms h.2 (stays a h.0 m h.1 r)

  -- from the opening
  first-sound : (t : ℕ) (log : C) (line : N) (logs : List P) (a : Rehearsal C P N) → Opened mc mp mn t log line logs a → Fresh t (log_of mc log) → Clear t (mn.waiting line) → Sound a
  first-sound t log line logs a o f c =
      subst (λ (u : ℕ). Reached u (scene_of mc mp mn a)) (sym o.transaction)
      (subst (λ u. Reached t u) (sym o.scene) (opening (log_of mc log) (mn.waiting line) f c))

  -- what stopped for want of memory stands where the moves before that left it
  pub rests-sound : (a b : Rehearsal C P N) → Resting mc mp mn a b → Sound a → Sound b
  rests-sound a b h r = subst (λ u. Reached b.desk.transaction u) (sym h.unmoved.0) (subst (λ (u : ℕ). Reached u (scene_of mc mp mn a)) (sym h.transaction) r)

  pub halts-sound : (a b : Rehearsal C P N) (ms : List Move) (n : ℕ) → Halts mc mp mn a ms n b → Sound a → Reached a.desk.transaction (scene_of mc mp mn b)
  halts-sound a b ms n h r =
      let e = h.3.transaction ∙ same a h.1 (take n ms) h.2 in
      subst (λ (u : ℕ). Reached u (scene_of mc mp mn b)) e (rests-sound h.1 b h.3 (sound a h.1 (take n ms) h.2 r))

  pub plays-sound : (a b : Rehearsal C P N) (ms : List Move) → Chain (Step mc mp mn) a ms b → Sound a → Reached a.desk.transaction (scene_of mc mp mn b)
  plays-sound a b ms h r = subst (λ (u : ℕ). Reached u (scene_of mc mp mn b)) (same a b ms h) (sound a b ms h r)

  -- one move more
  pub plays-more : (a b c : Rehearsal C P N) (ms : List Move) (i : ℕ) (m : Move) → i < length ms → m ≡ get_or ms i m → Chain (Step mc mp mn) a (take i ms) b → Step mc mp mn b m c → Chain (Step mc mp mn) a (take (i + 1) ms) c
  plays-more a b c ms i m l e h s = subst (λ (xs : List Move). Chain (Step mc mp mn) a xs c) (ap (λ x. take i ms ++ x ∷ []) e ∙ sym (take_more ms i m l)) (chain_more (Step mc mp mn) a b c (take i ms) m h s)

  -- what stands once the opening's world is reached
  pub opened-agrees : (t : ℕ) (log : C) (line : N) (logs : List P) (a : Rehearsal C P N) (v : World) → Opened mc mp mn t log line logs a → (Sound a → Reached a.desk.transaction v × Agrees a.desk.transaction v)
      → Fresh t (log_of mc log) → Clear t (mn.waiting line) → Agrees t v
  opened-agrees t log line logs a v o k f c = subst (λ (u : ℕ). Agrees u v) o.transaction (k (first-sound t log line logs a o f c)).1

  -- the move with number i went, or failed
  pub went-on : {E : Type 0} (a b c : Rehearsal C P N) (ms : List Move) (i : ℕ) (m : Move) (o : Result (Unit {0}) E) (y : Bool) → y ≡ is_err o → y ≡ false → i < length ms → m ≡ get_or ms i m → Chain (Step mc mp mn) a (take i ms) b
      → MatchResult o (λ _. Step mc mp mn b m c) (λ _. Resting mc mp mn b c) → Chain (Step mc mp mn) a (take (i + 1) ms) c
  went-on a b c ms i m o y e f l at h s = plays-more a b c ms i m l at h (went (λ _. Step mc mp mn b m c) (λ _. Resting mc mp mn b c) o y e f s).1

  pub halted : {E : Type 0} (a b c : Rehearsal C P N) (ms : List Move) (i : ℕ) (m : Move) (o : Result (Unit {0}) E) (y : Bool) → y ≡ is_err o → y ≡ true → i < length ms → Chain (Step mc mp mn) a (take i ms) b
      → MatchResult o (λ _. Step mc mp mn b m c) (λ _. Resting mc mp mn b c) → Halts mc mp mn a ms i c
  halted a b c ms i m o y e f l h s = (l, b, h, (failed (λ _. Step mc mp mn b m c) (λ _. Resting mc mp mn b c) o y e f s).1)
