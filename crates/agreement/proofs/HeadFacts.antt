-- What the coordinator's calls keep of its state, table and log.
use Rattle.std.proofs.Common.{◌≡◌, ℕ, Bool, true, false, eqb, ltb, List, [], Some, None, Option, sym, refl, ap, ◌∙◌, subst, inl, inr}
use Rattle.std.proofs.lemmas.Bool.{cond_both, eq-eqb, and_from}
use Rattle.lines.specs.Lines.{In}
use Rattle.records.specs.Recs.{Rec}
use Rattle.words.specs.Notes.{Note}
use Rattle.agreement.proofs.CoordFacts.{gathering, noted, committed, rolled, phase, clash, TableOk, CoordOk, Given, CoordGood, AllSaid, ready-said, each-given}
use Rattle.agreement.proofs.CoordFacts as K
use Rattle.agreement.proofs.LogFacts.{added_new, secured-all, restarted-safe, restarted-back, first-none, first_some}
use Rattle.agreement.specs.CoordinatorRules.{Coord, coord, HeadTurn, coord_room, is, none_is, voted, voted_durable, done_if, found_by}
use Rattle.agreement.specs.CoordinatorRules.{decision, decides, commits, settle, restart}
use Rattle.agreement.specs.Logs.{LogState, roomy, restarted, decision_kind, is_decision, first, Has, InLog, Without}
use Rattle.agreement.specs.Names.{Commit}
use Rattle.agreement.specs.Names.{State, Ready, Noted}
use Rattle.agreement.specs.World.{Party, Mail}
use Rattle.agreement.specs.World.{Call, expires, settles, resends, receives, restarts}
use Rattle.agreement.specs.World.{head_does, Receivable}

-- ── a coordinator with its log ──

-- what a phase says of the log
pub record HeadOk (t : ℕ) (l : LogState) (c : Coord) (seats : List Party) (posted : List Note) : Type 0 where
  pub gathers : phase c.state ≡ gathering → Without (is_decision t) l
  pub notes : phase c.state ≡ noted → InLog (is_decision t) l
  pub commits : phase c.state ≡ committed → Has (is_decision t) l.safe
  pub rolls : phase c.state ≡ rolled → Without (is_decision t) l
  pub said : InLog (is_decision t) l → AllSaid t seats posted

-- what a call keeps: both ends last
pub record HeadGood (t : ℕ) (seats : List Party) (posted : List Note) (c c' : Coord) (l' : LogState) (ns : List Note) : Type 0 where
  pub still : CoordOk t c' seats posted
  pub stays : phase c.state ≡ committed → phase c'.state ≡ committed
  pub lost : phase c.state ≡ rolled → phase c'.state ≡ rolled
  pub sent : Given t ns c'.state
  pub head : HeadOk t l' c' seats posted

module _ (t : ℕ) (l : LogState) (c : Coord) (seats : List Party) (posted : List Note) where
  pub head-gathers : phase c.state ≡ gathering → Without (is_decision t) l → HeadOk t l c seats posted
  head-gathers p n =
      record { gathers = λ e. n; notes = λ e. clash _ _ _ p e refl; commits = λ e. clash _ _ _ p e refl; rolls = λ e. n; said = λ h. absurd (n h) }

  head-notes : phase c.state ≡ noted → InLog (is_decision t) l → AllSaid t seats posted → HeadOk t l c seats posted
  head-notes p d a =
      record { gathers = λ e. clash _ _ _ p e refl; notes = λ e. d; commits = λ e. clash _ _ _ p e refl; rolls = λ e. clash _ _ _ p e refl; said = λ h. a }

  head-commits : phase c.state ≡ committed → Has (is_decision t) l.safe → AllSaid t seats posted → HeadOk t l c seats posted
  head-commits p d a =
      record { gathers = λ e. clash _ _ _ p e refl; notes = λ e. clash _ _ _ p e refl; commits = λ e. d; rolls = λ e. clash _ _ _ p e refl; said = λ h. a }

  head-rolls : phase c.state ≡ rolled → Without (is_decision t) l → HeadOk t l c seats posted
  head-rolls p n =
      record { gathers = λ e. n; notes = λ e. clash _ _ _ p e refl; commits = λ e. clash _ _ _ p e refl; rolls = λ e. n; said = λ h. absurd (n h) }

module _ (t : ℕ) (seats : List Party) (posted : List Note) where
  abbrev pub Good : Coord → HeadTurn → Type 0
  Good c turn = HeadGood t seats posted c turn.after.coord turn.after.log turn.sent

  -- a call that touches no log
  pub onward : (l : LogState) (c c' : Coord) (ns : List Note) → CoordGood t seats posted c c' ns → HeadOk t l c seats posted → HeadGood t seats posted c c' l ns
  onward l c c' ns g k =
      record {
        still = g.still;
        stays = λ e. elim g.moves [ inl m ↦ m ∙ e | inr m ↦ clash _ _ _ m.0 e refl ];
        lost = λ e. elim g.moves [ inl m ↦ m ∙ e | inr m ↦ m.1 ];
        sent = g.sent;
        head = elim g.moves [
          | inl m ↦ record { gathers = λ e. k.gathers (sym m ∙ e); notes = λ e. k.notes (sym m ∙ e); commits = λ e. k.commits (sym m ∙ e); rolls = λ e. k.rolls (sym m ∙ e); said = k.said }
          | inr m ↦ head-rolls t l c' seats posted m.1 (k.gathers m.0)
        ];
      }

  module _ (l : LogState) (c : Coord) (o : CoordOk t c seats posted) (k : HeadOk t l c seats posted) where
    pub idle : HeadGood t seats posted c c l []
    idle = onward l c c [] (K.silent t seats posted c o) k

    decides-good : c.state ≡ Ready → Good c (decides t c l)
    decides-good e =
        let g : phase c.state ≡ gathering = ap phase e in
        let a = ready-said t c.table seats posted (subst (λ (x : State). TableOk t x c.table seats posted) e (o g)) in
        cond_both (roomy l) _ _ (Good c)
        (λ r. record {
          still = λ h. clash noted noted gathering refl h refl;
          stays = λ h. clash _ _ _ g h refl;
          lost = λ h. clash _ _ _ g h refl;
          sent = λ n h. absurd h;
          head = head-notes t _ (coord Noted c.table) seats posted refl
              (added_new (is_decision t) (decision t c.table) l (and_from (eqb decision_kind decision_kind) (eqb t t) refl (eq-eqb t t refl))) a;
        })
        (λ r. onward l c _ _ (K.rolls t seats posted c c.table g) k)

    done-phase : (b : Bool) → phase (done_if b) ≡ committed
    done-phase true = refl
    done-phase false = refl

    commits-good : c.state ≡ Noted → Good c (commits t c l)
    commits-good e =
        let g : phase c.state ≡ noted = ap phase e in
        let p = done-phase (none_is voted_durable c.table) in
        record {
          still = λ h. clash _ _ _ p h refl;
          stays = λ h. p;
          lost = λ h. clash _ _ _ g h refl;
          sent = each-given t Commit voted 0 c.table _ p;
          head = head-commits t _ _ seats posted p (secured-all (is_decision t) l (k.notes g)) (k.said (k.notes g));
        }

    settle-good : (room : ℕ) → Good c (settle t room c l)
    settle-good room =
        cond_both (ltb room coord_room) _ _ (Good c) (λ e. idle)
        (λ e. cond_both (is Ready c.state) _ _ (Good c) (λ f. decides-good (K.is_state Ready c.state f))
        (λ f. cond_both (is Noted c.state) _ _ (Good c) (λ h. commits-good (K.is_state Noted c.state h)) (λ h. idle)))

    -- a restart finds the Decision exactly if it is safe by then
    restart-good : (n : ℕ) → Good c (restart t n l)
    restart-good n = go (first (is_decision t) l'.safe) refl
      where
        l' : LogState
        l' = restarted n l

        go : (f : Option Rec) → first (is_decision t) l'.safe ≡ f → HeadGood t seats posted c (found_by f) l' []
        go None e =
            let none = first-none (is_decision t) l'.safe e in
            record {
              still = λ h. clash rolled rolled gathering refl h refl;
              stays = λ h. absurd (none (restarted-safe (is_decision t) n l (k.commits h)));
              lost = λ h. refl;
              sent = λ m h. absurd h;
              head = head-rolls t l' _ seats posted refl (λ h. elim h [ inl a ↦ none a | inr a ↦ a ]);
            }
        go (Some r) e =
            let q = first_some (is_decision t) l'.safe r e in
            let d = q.1 (is_decision t) q.0 in
            let was = restarted-back (is_decision t) n l (inl d) in
            let p = done-phase (eqb r.seats 0) in
            record {
              still = λ h. clash _ _ _ p h refl;
              stays = λ h. p;
              lost = λ h. absurd (k.rolls h was);
              sent = λ m h. absurd h;
              head = head-commits t l' _ seats posted p d (k.said was);
            }

    pub call-good : (a : Call) (m : Mail) → Receivable a m → ((n : Note) → In n m.taken → n.transaction ≡ t → In n posted) → Good c (head_does t a c l)
    call-good (expires room) m r f = onward l c _ _ (K.expire-good t seats posted c o room) k
    call-good (settles room) m r f = settle-good room
    call-good (resends room) m r f = onward l c _ _ (K.resend-good t seats posted c o room) k
    call-good (receives room n) m r f = onward l c _ _ (K.receive-good t seats posted c o room n (f n r)) k
    call-good (restarts n) m r f = restart-good n
