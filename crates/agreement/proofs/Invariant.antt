-- The invariant of the world, that every move keeps it, and what it says.
use Rattle.std.proofs.Common.{◌≡◌, ℕ, true, false, eqb, ltb, ◌⊎◌, List, [], ◌∷◌, ◌++◌, get_or, set, Some, sym, refl, ap, ◌∙◌, subst, inl, inr, arith, append-nil}
use Rattle.std.proofs.lemmas.Bool.{cond_both, eqb-false}
use Rattle.lines.proofs.MemberFacts.{in-cases, in_left}
use Rattle.lines.specs.Lines.{In, Within}
use Rattle.seats.specs.Sizes.{seat_count}
use Rattle.words.specs.Kinds.{goes_up}
use Rattle.words.specs.Notes.{Note}
use Rattle.agreement.proofs.CoordFacts.{committed, rolled, phase, clash, PlaceOk, Shows, CoordOk, MayGive, Given, CoordGood, Registering, refused, granted, register-good}
use Rattle.agreement.proofs.CoordFacts as K
use Rattle.agreement.proofs.HeadFacts.{HeadOk}
use Rattle.agreement.proofs.HeadFacts as H
use Rattle.agreement.proofs.ListFacts.{set_cases, set_here, blank-at}
use Rattle.agreement.proofs.LogFacts.{fresh-own, fresh-decision}
use Rattle.agreement.proofs.PartFacts.{VoteSafe, voted-bound, Viewing, Facts, PartOk, PartGood, MaySend}
use Rattle.agreement.proofs.PartFacts as Q
use Rattle.agreement.specs.CoordinatorRules.{Coord, CoordTurn, HeadTurn, coord_room, outcome_of, opened}
use Rattle.agreement.specs.CoordinatorRules.{by_right, commit_asked, rollback_asked, ask_commit, ask_rollback, ask_outcome, seat_at}
use Rattle.agreement.specs.Logs.{LogState, vote_kind, kept_kind, undone_kind, is_decision, is_own, Has, Without, Fresh}
use Rattle.agreement.specs.Names.{Kind, Prepare, Commit, Rollback, Prepared, ReadOnly, Aborted, Committed}
use Rattle.agreement.specs.Names.{State, Active, VolatileVoting, DurableVoting, Ready, Noted, Committing, Done, Rolled, Durability, Volatile, Durable, Standing, Idle, Asked, Voted, Gone, Heard, Place, Vacant, Seated}
use Rattle.agreement.specs.Names.{PartState, Working, Kept, Undone, Viewed, Unknown, Outcome, Open, ToldCommitted, ToldAborted}
use Rattle.agreement.specs.ParticipantRules.{Part, PartTurn, part}
use Rattle.agreement.specs.Statement.{committed as ends-committed, rolled_back, coord_end, part_end, DurableAt, Ends, NoTwoEndDifferently, Among, DecisionBacked, Steady, AnswersStay, Agreement, Bound, PromisesStand}
use Rattle.agreement.specs.Turns.{Reply, done, seated, tells, fails}
use Rattle.agreement.specs.World.{Party, nobody, volatile, awaited, joined, Mail, Office, World, seat_in, giving, office, world, by_head, told_by, by_initiator, apart, by_seat, new_party, by_register, by_join, by_part, by_mail}
use Rattle.agreement.specs.World.{Call, expires, settles, resends, receives, restarts, Move, registers, asks_commit, asks_rollback, asks_outcome, coordinator, joins, votes, participant, posts, takes, takes_nothing}
use Rattle.agreement.specs.World.{head_does, part_does, part_votes, made, Postable, was_given, volatile's, another's, Receivable, Possible, at_first, Clear, Reached, opening, moving}

-- ── the invariant ──

abbrev pub Decided : Coord → Type 0
Decided c = phase c.state ≡ committed

abbrev pub RolledBack : Coord → Type 0
RolledBack c = phase c.state ≡ rolled

abbrev PartyVoted : ℕ → ℕ → Party → Type 0
PartyVoted t s nobody = ⊥
PartyVoted t s volatile = ⊥
PartyVoted t s awaited = ⊥
PartyVoted t s (joined p) = VoteSafe t s p.log

abbrev PartyViewing : ℕ → ℕ → Party → Type 0
PartyViewing t s nobody = ⊥
PartyViewing t s volatile = ⊥
PartyViewing t s awaited = ⊥
PartyViewing t s (joined p) = Viewing t s p.state p.log

-- what stands behind a notification that a call gave, from or to the party at seat s
abbrev Authority : ℕ → Type 0 → Type 0 → Kind → ℕ → Party → Type 0
Authority t D R Prepare s y = Unit {0}
Authority t D R Commit s y = D
Authority t D R Rollback s y = R
Authority t D R Prepared s y = PartyVoted t s y
Authority t D R ReadOnly s y = PartyViewing t s y
Authority t D R Aborted s y = Unit {0}
Authority t D R Committed s y = Unit {0}

-- in an office, D and R are its coordinator's
abbrev Backing : ℕ → Office → Kind → ℕ → Type 0
Backing t q k s = Authority t (Decided q.coord) (RolledBack q.coord) k s (seat_in q s)

abbrev PartIn : ℕ → Office → ℕ → Part → Type 0
PartIn t q s p = PartOk (Decided q.coord) (RolledBack q.coord) t s p.state p.log

abbrev GoodIn : ℕ → Office → ℕ → Part → PartTurn → Type 0
GoodIn t q s p turn = PartGood (Decided q.coord) (RolledBack q.coord) t s p.state p.log turn.after turn.sent

pub record OfficeOk (t : ℕ) (q : Office) : Type 0 where
  pub coord : CoordOk t q.coord q.seats q.mail.posted
  pub parts : (s : ℕ) (p : Part) → seat_in q s ≡ joined p → PartIn t q s p
  pub given : (n : Note) → In n q.mail.given → n.transaction ≡ t → Backing t q n.kind n.seat
  pub posted : (n : Note) → In n q.mail.posted → n.transaction ≡ t
      → In n q.mail.given ⊎ ((goes_up n.kind ≡ true) × (seat_in q n.seat ≡ volatile))
  pub taken : (n : Note) → In n q.mail.taken → n.transaction ≡ t → In n q.mail.posted
  pub waiting : (n : Note) → In n q.mail.waiting → n.transaction ≡ t → In n q.mail.posted

pub record Inv (t : ℕ) (w : World) : Type 0 where
  pub office : OfficeOk t w.office
  pub head : HeadOk t w.log w.office.coord w.office.seats w.office.mail.posted
  pub told : (o : Outcome) → In o w.told → (o ≡ Open → ⊥) → outcome_of w.office.coord.state ≡ o
  pub steady : Steady w.told

-- ── what lasts ──

module _ (D D' R R' : Type 0) (f : D → D') (g : R → R') (t : ℕ) where
  part-more : (s : ℕ) (x : PartState) (l : LogState) → PartOk D R t s x l → PartOk D' R' t s x l
  part-more s x l i = record { facts = i.facts; kept = λ h. f (i.kept h); undone = λ h. g (i.undone h) }

  authority-more : (k : Kind) (s : ℕ) (y y' : Party) → (PartyVoted t s y → PartyVoted t s y') → (PartyViewing t s y → PartyViewing t s y')
      → Authority t D R k s y → Authority t D' R' k s y'
  authority-more Prepare s y y' v w h = h
  authority-more Commit s y y' v w h = f h
  authority-more Rollback s y y' v w h = g h
  authority-more Prepared s y y' v w h = v h
  authority-more ReadOnly s y y' v w h = w h
  authority-more Aborted s y y' v w h = h
  authority-more Committed s y y' v w h = h

coord-authority : (t : ℕ) (k : Kind) (s : ℕ) (y : Party) (c : Coord) → MayGive k c.state → Authority t (Decided c) (RolledBack c) k s y
coord-authority t Prepare s y c m = tt
coord-authority t Commit s y c m = m
coord-authority t Rollback s y c m = m
coord-authority t Prepared s y c m = absurd m
coord-authority t ReadOnly s y c m = absurd m
coord-authority t Aborted s y c m = absurd m
coord-authority t Committed s y c m = absurd m

part-authority : (t : ℕ) (D R : Type 0) (k : Kind) (s : ℕ) (p : Part) → MaySend t s k p.state p.log → Authority t D R k s (joined p)
part-authority t D R Prepare s p m = absurd m
part-authority t D R Commit s p m = absurd m
part-authority t D R Rollback s p m = absurd m
part-authority t D R Prepared s p m = m
part-authority t D R ReadOnly s p m = m
part-authority t D R Aborted s p m = tt
part-authority t D R Committed s p m = tt

among-more : (t s : ℕ) (k : Kind) (a b : List Note) → ((n : Note) → In n a → In n b) → Among t s k a → Among t s k b
among-more t s k a b f h = (h.0, f h.0 h.1, h.2, h.3, h.4)

shows_more : (t : ℕ) (x : State) (a b : List Note) (s : ℕ) (y : Standing) → ((n : Note) → In n a → In n b) → Shows t x a s y → Shows t x b s y
shows_more t x a b s Idle f h = h
shows_more t x a b s Asked f h = h
shows_more t x a b s Voted f h = among-more t s Prepared a b f h
shows_more t x a b s Gone f h = among-more t s ReadOnly a b f h
shows_more t x a b s Heard f h = h

place-more : (t : ℕ) (x : State) (a b : List Note) (s : ℕ) (p : Place) → ((n : Note) → In n a → In n b) → PlaceOk t x a s p → PlaceOk t x b s p
place-more t x a b s Vacant f h = h
place-more t x a b s (Seated (d, y)) f h = shows_more t x a b s y f h

-- ── telling parties apart ──

abbrev party_code : Party → ℕ
party_code nobody = 0
party_code volatile = 1
party_code awaited = 2
party_code (joined p) = 3

-- nobody is two parties
strangers : {A : Type 0} (y a b : Party) → y ≡ a → y ≡ b → eqb (party_code a) (party_code b) ≡ false → A
strangers y a b e f d = absurd (eqb-false (party_code a) (party_code b) d (ap party_code (sym e ∙ f)))

new-joined : (d : Durability) (p : Part) → new_party d ≡ joined p → ⊥
new-joined Volatile p e = strangers volatile volatile (joined p) refl e refl
new-joined Durable p e = strangers awaited awaited (joined p) refl e refl

joined_same : (p q : Part) → joined p ≡ joined q → p ≡ q
joined_same p q e = cc

committed-told : (x : State) → phase x ≡ committed → outcome_of x ≡ ToldCommitted
committed-told x e = grind arith

rolled-told : (x : State) → phase x ≡ rolled → outcome_of x ≡ ToldAborted
rolled-told x e = grind arith

module _ (t : ℕ) where
  -- ── the coordinator acts ──
  office-coord : (q : Office) (c : Coord) (ns : List Note) → CoordOk t c q.seats q.mail.posted
      → (Decided q.coord → Decided c) → (RolledBack q.coord → RolledBack c) → Given t ns c.state
      → OfficeOk t q → OfficeOk t (office c q.seats (giving ns q.mail))
  office-coord q c ns o f g m i =
      record {
        coord = o;
        parts = λ s p h. part-more _ _ _ _ f g t s p.state p.log (i.parts s p h);
        given = λ n h e. elim (in-cases n q.mail.given ns h) [
          | inr a ↦ coord-authority t n.kind n.seat (seat_in q n.seat) c (m n a).1
          | inl a ↦ authority-more _ _ _ _ f g t n.kind n.seat (seat_in q n.seat) (seat_in q n.seat) (λ v. v) (λ v. v) (i.given n a e)
        ];
        posted = λ n h e. elim (i.posted n h e) [ inl a ↦ inl (in_left n q.mail.given ns a) | inr a ↦ inr a ];
        taken = i.taken;
        waiting = i.waiting;
      }

  -- what was answered stays
  outcome-stays : (x y : State) → (phase x ≡ committed → phase y ≡ committed) → (phase x ≡ rolled → phase y ≡ rolled)
      → (o : Outcome) → (o ≡ Open → ⊥) → outcome_of x ≡ o → outcome_of y ≡ o
  outcome-stays Active y f g o n e = absurd (n (sym e))
  outcome-stays VolatileVoting y f g o n e = absurd (n (sym e))
  outcome-stays DurableVoting y f g o n e = absurd (n (sym e))
  outcome-stays Ready y f g o n e = absurd (n (sym e))
  outcome-stays Noted y f g o n e = absurd (n (sym e))
  outcome-stays Committing y f g o n e = committed-told y (f refl) ∙ e
  outcome-stays Done y f g o n e = committed-told y (f refl) ∙ e
  outcome-stays Rolled y f g o n e = rolled-told y (g refl) ∙ e

  by_head_lem : (w : World) (turn : HeadTurn) → H.Good t w.office.seats w.office.mail.posted w.office.coord turn → Inv t w → Inv t (by_head w turn)
  by_head_lem w turn g i =
      record {
        office = office-coord w.office turn.after.coord turn.sent g.still g.stays g.lost g.sent i.office;
        head = g.head;
        told = λ o h n. outcome-stays _ turn.after.coord.state g.stays g.lost o n (i.told o h n);
        steady = i.steady;
      }

  -- ── the initiator is told ──
  abbrev Honest : Reply State → State → Type 0
  Honest (done n) x = Unit {0}
  Honest (seated s n) x = Unit {0}
  Honest (tells o n) x = outcome_of x ≡ o
  Honest (fails f) x = Unit {0}

  by-telling : (w : World) (r : Reply State) → Honest r w.office.coord.state → Inv t w → Inv t (world w.log w.office (told_by r w.told))
  by-telling w (done n) h i = i
  by-telling w (seated s n) h i = i
  by-telling w (tells o n) h i =
      record {
        office = i.office;
        head = i.head;
        told = λ p k e. elim k [ inl q ↦ h ∙ sym q | inr a ↦ i.told p a e ];
        steady = (λ p k e. sym h ∙ i.told p k e, i.steady);
      }
  by-telling w (fails f) h i = i

  abbrev HonestTurn : CoordTurn → Type 0
  HonestTurn turn = Honest turn.reply turn.after.state

  right-honest : (room r : ℕ) (c : Coord) (turn : CoordTurn) → HonestTurn (by_right t room r c turn)
  right-honest room r c turn =
      cond_both (ltb room coord_room) _ _ HonestTurn (λ e. tt) (λ e. cond_both (eqb r t) _ _ HonestTurn (λ f. refl) (λ f. tt))

  by_initiator_lem : (w : World) (turn : CoordTurn) → CoordGood t w.office.seats w.office.mail.posted w.office.coord turn.after turn.sent → HonestTurn turn
      → Inv t w → Inv t (by_initiator w (apart w.log turn))
  by_initiator_lem w turn g h i =
      by-telling (by_head w (apart w.log turn)) turn.reply h
      (by_head_lem w (apart w.log turn) (H.onward t w.office.seats w.office.mail.posted w.log w.office.coord turn.after turn.sent g i.head) i)

  -- ── the party at one seat changes ──
  record Follows (s : ℕ) (y y' : Party) : Type 0 where
    voted : PartyVoted t s y → PartyVoted t s y'
    viewing : PartyViewing t s y → PartyViewing t s y'
    volatile : y ≡ volatile → y' ≡ volatile

  module _ (q : Office) (s : ℕ) (y : Party) (f : Follows s (seat_in q s) y) where
    -- what holds of every party, and is kept at this seat
    turned : (P : ℕ → Party → Type 0) → (P s (seat_in q s) → P s y) → (j : ℕ) → P j (seat_in q j) → P j (get_or (set q.seats s y) j nobody)
    turned P h j k = elim (set_cases q.seats s y j nobody) [
      | inl c ↦ subst (P j) (sym c.1) (subst (λ (a : ℕ). P a (seat_in q a) → P a y) c.0 h k)
      | inr c ↦ subst (P j) (sym c) k
    ]

    authority-turned : (D D' R R' : Type 0) (g : D → D') (h : R → R') (k : Kind) (j : ℕ)
        → Authority t D R k j (seat_in q j) → Authority t D' R' k j (get_or (set q.seats s y) j nobody)
    authority-turned D D' R R' g h k j =
        authority-more D D' R R' g h t k j (seat_in q j) _ (turned (PartyVoted t) f.voted j) (turned (PartyViewing t) f.viewing j)

    posted-turned : (given : List Note) → ((n : Note) → In n q.mail.given → In n given) → OfficeOk t q → (n : Note) → In n q.mail.posted → n.transaction ≡ t
        → In n given ⊎ ((goes_up n.kind ≡ true) × (get_or (set q.seats s y) n.seat nobody ≡ volatile))
    posted-turned given more i n h e = elim (i.posted n h e) [
      | inl a ↦ inl (more n a)
      | inr a ↦ inr (a.0, turned (λ j z. z ≡ volatile) f.volatile n.seat a.1)
    ]

  -- registering: the seat that is given was nobody's
  module _ (d : Durability) (w : World) (i : Inv t w) where
    abbrev q₀ : Office
    q₀ = w.office

    new-follows : (n : ℕ) → seat_in q₀ n ≡ nobody → Follows n (seat_in q₀ n) (new_party d)
    new-follows n e =
        record {
          voted = λ v. absurd (subst (PartyVoted t n) e v);
          viewing = λ v. absurd (subst (PartyViewing t n) e v);
          volatile = λ v. strangers _ volatile nobody v e refl;
        }

    by_register_lem : (turn : CoordTurn) → Registering t d q₀.coord q₀.seats q₀.mail.posted turn → Inv t (world w.log (by_register d q₀ turn) w.told)
    by_register_lem _ (refused f) =
        subst (λ (ns : List Note). Inv t (world w.log (office q₀.coord q₀.seats (record { given = ns; posted = q₀.mail.posted; taken = q₀.mail.taken; waiting = q₀.mail.waiting })) w.told))
        (sym (append-nil q₀.mail.given)) i
    by_register_lem _ (granted n e g k) =
        let follow = new-follows n e in
        let turn = seat_at t d q₀.coord (Some n) in
        record {
          office = record {
            coord = k.still;
            parts = λ s p h. elim (set_cases q₀.seats n (new_party d) s nobody) [
              | inl c ↦ absurd (new-joined d p (sym c.1 ∙ h))
              | inr c ↦ i.office.parts s p (sym c ∙ h)
            ];
            given = λ m h a. elim (in-cases m q₀.mail.given turn.sent h) [
              | inr b ↦ coord-authority t m.kind m.seat _ turn.after (k.sent m b).1
              | inl b ↦ authority-turned q₀ n (new_party d) follow _ _ _ _ (λ x. x) (λ x. x) m.kind m.seat (i.office.given m b a)
            ];
            posted = posted-turned q₀ n (new_party d) follow _ (λ m h. in_left m q₀.mail.given turn.sent h) i.office;
            taken = i.office.taken;
            waiting = i.office.waiting;
          };
          head = H.head-gathers t w.log turn.after _ _ g (i.head.gathers g);
          told = i.told;
          steady = i.steady;
        }

  -- ── a durable participant joins, or acts ──
  module _ (w : World) (s : ℕ) (p : Part) (ns : List Note) where
    abbrev q₁ : Office
    q₁ = w.office

    by_seat_lem : (seat_in q₁ s ≡ nobody → ⊥) → Follows s (seat_in q₁ s) (joined p) → PartIn t q₁ s p
        → ((n : Note) → In n ns → (n.seat ≡ s) × MaySend t s n.kind p.state p.log) → Inv t w → Inv t (world w.log (by_seat q₁ s p ns) w.told)
    by_seat_lem there f o m i =
        record {
          office = record {
            coord = λ e. record { covers = λ j h. covers j ((i.office.coord e).covers j h); places = (i.office.coord e).places };
            parts = λ j r h. elim (set_cases q₁.seats s (joined p) j nobody) [
              | inl c ↦ subst (λ (a : ℕ). PartIn t q₁ a r) c.0 (subst (PartIn t q₁ s) (joined_same p r (sym c.1 ∙ h)) o)
              | inr c ↦ i.office.parts j r (sym c ∙ h)
            ];
            given = λ n h e. elim (in-cases n q₁.mail.given ns h) [
              | inr a ↦ let k = m n a in
                  subst (λ (j : ℕ). Authority t (Decided q₁.coord) (RolledBack q₁.coord) n.kind j (get_or (set q₁.seats s (joined p)) j nobody)) (sym k.0)
                  (subst (λ (y : Party). Authority t (Decided q₁.coord) (RolledBack q₁.coord) n.kind s y) (sym (set_here q₁.seats s (joined p) nobody there))
                  (part-authority t (Decided q₁.coord) (RolledBack q₁.coord) n.kind s p k.1))
              | inl a ↦ authority-turned q₁ s (joined p) f _ _ _ _ (λ x. x) (λ x. x) n.kind n.seat (i.office.given n a e)
            ];
            posted = posted-turned q₁ s (joined p) f _ (λ n h. in_left n q₁.mail.given ns h) i.office;
            taken = i.office.taken;
            waiting = i.office.waiting;
          };
          head = record {
            gathers = i.head.gathers;
            notes = i.head.notes;
            commits = i.head.commits;
            rolls = i.head.rolls;
            said = λ h j k. i.head.said h j (λ e. k (covers j e));
          };
          told = i.told;
          steady = i.steady;
        }
      where
        covers : (j : ℕ) → seat_in q₁ j ≡ nobody → get_or (set q₁.seats s (joined p)) j nobody ≡ nobody
        covers j = turned q₁ s (joined p) f (λ j y. y ≡ nobody) (λ e. absurd (there e)) j

  by_join_lem : (w : World) (s : ℕ) (l : LogState) (y : Party) → seat_in w.office s ≡ y → Fresh t l → Inv t w → Inv t (world w.log (by_join w.office s l y) w.told)
  by_join_lem w s l nobody e f i = i
  by_join_lem w s l volatile e f i = i
  by_join_lem w s l awaited e f i =
      by_seat_lem w s (part Working l) [] (λ v. strangers _ nobody awaited v e refl)
      (record {
        voted = λ v. absurd (subst (PartyVoted t s) e v);
        viewing = λ v. absurd (subst (PartyViewing t s) e v);
        volatile = λ v. strangers _ volatile awaited v e refl;
      })
      (record {
        facts = (fresh-own vote_kind t s l f, fresh-own kept_kind t s l f, fresh-own undone_kind t s l f);
        kept = λ h. absurd (fresh-own kept_kind t s l f h);
        undone = λ h. absurd (fresh-own undone_kind t s l f h);
      })
      (λ n h. absurd h) i
  by_join_lem w s l (joined p) e f i = i

  by_part_lem : (w : World) (s : ℕ) (act : Part → PartTurn) (y : Party) → seat_in w.office s ≡ y
      → ((p : Part) → PartIn t w.office s p → GoodIn t w.office s p (act p))
      → Inv t w → Inv t (world w.log (by_part act w.office s y) w.told)
  by_part_lem w s act nobody e g i = i
  by_part_lem w s act volatile e g i = i
  by_part_lem w s act awaited e g i = i
  by_part_lem w s act (joined p) e g i =
      let k = g p (i.office.parts s p e) in
      by_seat_lem w s (act p).after (act p).sent (λ v. strangers _ nobody (joined p) v e refl)
      (record {
        voted = λ v. k.voted (subst (PartyVoted t s) e v);
        viewing = λ v. k.viewing (subst (PartyViewing t s) e v);
        volatile = λ v. strangers _ volatile (joined p) v e refl;
      })
      k.still (λ n h. let a = k.sent n h in (a.1, a.2)) i

  -- Commit and Rollback that were taken have their authority
  orders : (w : World) → Inv t w → (n : Note) → In n w.office.mail.taken → n.transaction ≡ t
      → (n.kind ≡ Commit → Decided w.office.coord) × (n.kind ≡ Rollback → RolledBack w.office.coord)
  orders w i n h e = elim (i.office.posted n (i.office.taken n h e) e) [
    | inl a ↦ (λ k. subst (λ (j : Kind). Backing t w.office j n.seat) k (i.office.given n a e), λ k. subst (λ (j : Kind). Backing t w.office j n.seat) k (i.office.given n a e))
    | inr a ↦ (λ k. absurd (upward n.kind (inl k) a.0), λ k. absurd (upward n.kind (inr k) a.0))
  ]
    where
      upward : (k : Kind) → (k ≡ Commit) ⊎ (k ≡ Rollback) → goes_up k ≡ true → ⊥
      upward k h e = grind arith

  part-good : (w : World) (s : ℕ) (a : Call) → Receivable a w.office.mail → Inv t w
      → (p : Part) → PartIn t w.office s p → GoodIn t w.office s p (part_does t s a p)
  part-good w s (expires room) m i p o = Q.expire-good _ _ t s p.log p.state o room
  part-good w s (settles room) m i p o = Q.settle-good _ _ t s p.log p.state o room
  part-good w s (resends room) m i p o = Q.resend-good _ _ t s p.log p.state o room
  part-good w s (receives room n) m i p o = Q.receive-good _ _ t s p.log p.state o room n (orders w i n m)
  part-good w s (restarts k) m i p o = Q.restart-good _ _ t s p.log p.state o k

  -- ── the line ──
  coord-more : (c : Coord) (seats : List Party) (a b : List Note) → ((n : Note) → In n a → In n b) → CoordOk t c seats a → CoordOk t c seats b
  coord-more c seats a b f o e =
      record { covers = (o e).covers; places = λ s. place-more t c.state a b s (get_or c.table s Vacant) f ((o e).places s) }

  by_mail_lem : (w : World) (m : Mail) → m.given ≡ w.office.mail.given
      → ((n : Note) → In n w.office.mail.posted → In n m.posted)
      → ((n : Note) → In n m.posted → n.transaction ≡ t → In n w.office.mail.given ⊎ ((goes_up n.kind ≡ true) × (seat_in w.office n.seat ≡ volatile)))
      → ((n : Note) → In n m.taken → n.transaction ≡ t → In n m.posted)
      → ((n : Note) → In n m.waiting → n.transaction ≡ t → In n m.posted)
      → Inv t w → Inv t (by_mail w m)
  by_mail_lem w m same more p k a i =
      record {
        office = record {
          coord = coord-more w.office.coord w.office.seats w.office.mail.posted m.posted more i.office.coord;
          parts = i.office.parts;
          given = λ n h e. i.office.given n (subst (In n) same h) e;
          posted = λ n h e. elim (p n h e) [ inl b ↦ inl (subst (In n) (sym same) b) | inr b ↦ inr b ];
          taken = k;
          waiting = a;
        };
        head = record {
          gathers = i.head.gathers;
          notes = i.head.notes;
          commits = i.head.commits;
          rolls = i.head.rolls;
          said = λ h s r. elim (i.head.said h s r) [ inl b ↦ inl (among-more t s Prepared _ _ more b) | inr b ↦ inr (among-more t s ReadOnly _ _ more b) ];
        };
        told = i.told;
        steady = i.steady;
      }

  by-post : (w : World) (n : Note) (after : List Note) → Postable t w.office n → Within after (w.office.mail.waiting ++ n ∷ []) → Inv t w → Inv t (made t (posts n after) w)
  unfolding Within
  by-post w n after p f i =
      by_mail_lem w _ refl (λ m h. inr h)
      (λ m h e. elim h [ inl q ↦ whose p m q e | inr a ↦ i.office.posted m a e ])
      (λ m h e. inr (i.office.taken m h e))
      (λ m h e. elim (in-cases m w.office.mail.waiting (n ∷ []) (f m h)) [ inl a ↦ inr (i.office.waiting m a e) | inr (inl q) ↦ inl q | inr (inr a) ↦ absurd a ])
      i
    where
      whose : Postable t w.office n → (m : Note) → m ≡ n → m.transaction ≡ t
          → In m w.office.mail.given ⊎ ((goes_up m.kind ≡ true) × (seat_in w.office m.seat ≡ volatile))
      whose (was_given a) m q e = inl (subst (λ (x : Note). In x w.office.mail.given) (sym q) a)
      whose (volatile's u v) m q e = inr (subst (λ (x : Note). (goes_up x.kind ≡ true) × (seat_in w.office x.seat ≡ volatile)) (sym q) (u, v))
      whose (another's d) m q e = absurd (d (sym (ap (λ (x : Note). x.transaction) q) ∙ e))

  by-take : (w : World) (more after : List Note) → ((n : Note) → In n more → In n w.office.mail.waiting) → Within after w.office.mail.waiting → Inv t w
      → Inv t (by_mail w (record { given = w.office.mail.given; posted = w.office.mail.posted; taken = more ++ w.office.mail.taken; waiting = after }))
  unfolding Within
  by-take w more after f g i =
      by_mail_lem w _ refl (λ m h. h) i.office.posted
      (λ m h e. elim (in-cases m more w.office.mail.taken h) [ inl a ↦ i.office.waiting m (f m a) e | inr a ↦ i.office.taken m a e ])
      (λ m h e. i.office.waiting m (g m h) e)
      i

  -- ── every move ──
  pub kept : (m : Move) (w : World) → Possible t m w → Inv t w → Inv t (made t m w)
  kept (registers room d) w p i =
      by_register_lem d w i _ (register-good t d w.office.coord w.office.seats w.office.mail.posted i.office.coord room)
  kept (asks_commit room r) w p i =
      by_initiator_lem w (ask_commit t room r w.office.coord) (K.commit-good t w.office.seats w.office.mail.posted w.office.coord i.office.coord room r) (right-honest room r w.office.coord (commit_asked t w.office.coord)) i
  kept (asks_rollback room r) w p i =
      by_initiator_lem w (ask_rollback t room r w.office.coord) (K.rollback-good t w.office.seats w.office.mail.posted w.office.coord i.office.coord room r) (right-honest room r w.office.coord (rollback_asked t w.office.coord)) i
  kept asks_outcome w p i =
      by_initiator_lem w (ask_outcome w.office.coord) (K.outcome-good t w.office.seats w.office.mail.posted w.office.coord i.office.coord) refl i
  kept (coordinator a) w p i =
      by_head_lem w (head_does t a w.office.coord w.log) (H.call-good t w.office.seats w.office.mail.posted w.log w.office.coord i.office.coord i.head a w.office.mail p i.office.taken) i
  kept (joins s l) w p i = by_join_lem w s l (seat_in w.office s) refl p i
  kept (votes s room b) w p i =
      by_part_lem w s (part_votes t s room b) (seat_in w.office s) refl (λ q o. Q.vote-good _ _ t s q.log q.state o room b) i
  kept (participant s a) w p i = by_part_lem w s (part_does t s a) (seat_in w.office s) refl (part-good w s a p i) i
  kept (posts n after) w p i = by-post w n after p.0 p.1 i
  kept (takes n after) w p i =
      by-take w (n ∷ []) after (λ m h. elim h [ inl e ↦ subst (λ (x : Note). In x w.office.mail.waiting) (sym e) p.0 | inr a ↦ absurd a ]) p.1 i
  kept (takes_nothing after) w p i = by-take w [] after (λ m h. absurd h) p i

  -- ── at first ──
  at_first_lem : (l : LogState) (waiting : List Note) → Fresh t l → Clear t waiting → Inv t (at_first l waiting)
  at_first_lem l waiting f g =
      record {
        office = record {
          coord = λ e. record { covers = λ s h. blank-at seat_count s nobody; places = λ s. subst (PlaceOk t Active [] s) (sym (blank-at seat_count s Vacant)) tt };
          parts = λ s p h. strangers _ nobody (joined p) (blank-at seat_count s nobody) h refl;
          given = λ n h e. absurd h;
          posted = λ n h e. absurd h;
          taken = λ n h e. absurd h;
          waiting = λ n h e. absurd (g n h e);
        };
        head = H.head-gathers t l opened _ _ refl (fresh-decision t l f);
        told = λ o h n. absurd h;
        steady = tt;
      }

  pub invariant : (w : World) → Reached t w → Inv t w
  invariant _ (opening l waiting f g) = at_first_lem l waiting f g
  invariant _ (moving w m r p) = kept m w p (invariant w r)

  -- ── what it says ──
  module _ (w : World) (i : Inv t w) where
    given-backing : (s : ℕ) (k : Kind) → Among t s k w.office.mail.given → Backing t w.office k s
    given-backing s k h =
        subst (λ (j : Kind). Backing t w.office j s) h.4
        (subst (Backing t w.office h.0.kind) h.3 (i.office.given h.0 h.1 h.2))

    -- of a seat that is not volatile, what was posted was given
    posted-backing : (s : ℕ) (k : Kind) → (seat_in w.office s ≡ volatile → ⊥) → Among t s k w.office.mail.posted → Backing t w.office k s
    posted-backing s k v h =
        given-backing s k (elim (i.office.posted h.0 h.1 h.2) [
          | inl a ↦ (h.0, a, h.2, h.3, h.4)
          | inr a ↦ absurd (v (subst (λ (j : ℕ). seat_in w.office j ≡ volatile) h.3 a.1))
        ])

    is-decided : Ends w ends-committed → Decided w.office.coord
    is-decided (inl e) = by_state w.office.coord.state e
      where
        by_state : (x : State) → coord_end x ≡ ends-committed → phase x ≡ committed
        by_state x e = grind arith
    is-decided (inr h) = (i.office.parts h.0 h.1 h.2).kept (inl (subst (λ (x : PartState). Facts t h.0 x h.1.log) (by_state h.1.state h.3) (i.office.parts h.0 h.1 h.2).facts))
      where
        by_state : (x : PartState) → part_end x ≡ ends-committed → x ≡ Kept
        by_state x e = grind arith

    -- a durable participant that never voted is against a decision
    silent-not : (s : ℕ) (p : Part) → DurableAt w s p → Without (is_own vote_kind t s) p.log → p.state ≡ Undone → Decided w.office.coord → ⊥
    silent-not s p e n u d = go (i.head.said (inl (i.head.commits d)) s (λ v. strangers _ nobody (joined p) v e refl))
      where
        durable : seat_in w.office s ≡ volatile → ⊥
        durable v = strangers _ volatile (joined p) v e refl

        undone-viewing : (x : PartState) → x ≡ Undone → (x ≡ Viewed) ⊎ (x ≡ Unknown) → ⊥
        undone-viewing x a b = grind arith

        go : Among t s Prepared w.office.mail.posted ⊎ Among t s ReadOnly w.office.mail.posted → ⊥
        go (inl h) = n (inl (subst (PartyVoted t s) e (posted-backing s Prepared durable h)))
        go (inr h) = undone-viewing p.state u (subst (PartyViewing t s) e (posted-backing s ReadOnly durable h)).1

    not-decided : Ends w rolled_back → Decided w.office.coord → ⊥
    not-decided (inl e) d = clash _ _ _ (by_state w.office.coord.state e) d refl
      where
        by_state : (x : State) → coord_end x ≡ rolled_back → phase x ≡ rolled
        by_state x e = grind arith
    not-decided (inr h) d = go (subst (λ (x : PartState). Facts t h.0 x h.1.log) u o.facts)
      where
        by_state : (x : PartState) → part_end x ≡ rolled_back → x ≡ Undone
        by_state x e = grind arith

        u : h.1.state ≡ Undone
        u = by_state h.1.state h.3

        o : PartIn t w.office h.0 h.1
        o = i.office.parts h.0 h.1 h.2

        go : Facts t h.0 Undone h.1.log → ⊥
        go (inl a) = clash _ _ _ (o.undone (inl a)) d refl
        go (inr a) = silent-not h.0 h.1 h.2 a u d

    agrees : NoTwoEndDifferently w × DecisionBacked t w × AnswersStay w
    agrees = (λ a b. not-decided b (is-decided a), i.head.said, i.steady)

    promises : ((s : ℕ) → Among t s Commit w.office.mail.given → Has (is_decision t) w.log.safe × (coord_end w.office.coord.state ≡ ends-committed))
        × ((s : ℕ) (p : Part) → DurableAt w s p → Among t s Prepared w.office.mail.given → Has (is_own vote_kind t s) p.log.safe × Bound p.state)
    promises = (
      λ s h. let d = given-backing s Commit h in (i.head.commits d, by-phase w.office.coord.state d),
      λ s p e h. let v = subst (PartyVoted t s) e (given-backing s Prepared h) in (v, voted-bound t s p.state p.log (i.office.parts s p e).facts v),
    )
      where
        by-phase : (x : State) → phase x ≡ committed → coord_end x ≡ ends-committed
        by-phase x e = grind arith

pub agreement : Agreement
agreement t w r = agrees t w (invariant t w r)

pub promises-stand : PromisesStand
promises-stand t w r = promises t w (invariant t w r)
