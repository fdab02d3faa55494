-- What the coordinator's calls keep of its state and table, against seats and posts; no log.
use Rattle.std.proofs.Common.{◌≡◌, ℕ, zero, suc, ◌+◌, Bool, true, false, cond, not, ◌&&◌, ◌||◌, eqb, ltb, leb, ◌⊎◌, List, [], ◌∷◌, map, get_or, set, Some, None, Ok, Err, Option, Result, sym, refl, ap, ◌∙◌, subst, inl, inr, arith}
use Rattle.std.proofs.lemmas.Bool.{cond_both, eqb-true, eqb-false, not-true, both_ways, and_parts, or_cases}
use Rattle.lines.proofs.MemberFacts.{in-cases}
use Rattle.lines.specs.Lines.{In}
use Rattle.words.specs.Notes.{Note}
use Rattle.words.specs.Kinds.{goes_up}
use Rattle.agreement.proofs.ListFacts.{set_cases, get_or-mapped}
use Rattle.agreement.specs.CoordinatorRules.{Coord, CoordTurn, coord, coord_room, is, gathers, is_durable, is_volatile, is_voted, is_gone, idle_volatile, idle_durable, pending_volatile, asked, voted_durable, remains, none_is, vacant_from}
use Rattle.agreement.specs.CoordinatorRules.{ask, in_state, with_place, new_standing, starts_durable, durable_asked, readied, ask_outcome, Verdict, ignored, stands, withdraws, breaks, verdict}
use Rattle.agreement.specs.CoordinatorRules.{to_each, durable_prepares, advance, seat_at, register, by_right, volatile_asked, commit_asked, rollback_asked, ask_commit, ask_rollback, expire, resends, resend, judge, hear_noted, hear_committed, hear_decided, hear_rolled, hear_from, hear, admitted, heed, receive}
use Rattle.agreement.specs.Names.{Kind, Prepare, Commit, Rollback, Prepared, ReadOnly, Aborted, Committed}
use Rattle.agreement.specs.Names.{State, Active, VolatileVoting, DurableVoting, Ready, Noted, Committing, Done, Rolled}
use Rattle.agreement.specs.Names.{Durability, Volatile, Durable, Standing, Idle, Asked, Voted, Gone, Heard, Place, Vacant, Seated}
use Rattle.agreement.specs.Statement.{Among}
use Rattle.agreement.specs.States.{state_code}
use Rattle.agreement.specs.Turns.{Report, short_outbox, other_transaction, misdirected, refuses, in_room, note}
use Rattle.agreement.specs.World.{Party, nobody, new_party}

-- ── the phases of a coordinator ──

pub data Phase : Type 0 where
  gathering : Phase
  noted : Phase
  committed : Phase
  rolled : Phase

abbrev pub phase : State → Phase
phase Active = gathering
phase VolatileVoting = gathering
phase DurableVoting = gathering
phase Ready = gathering
phase Noted = noted
phase Committing = committed
phase Done = committed
phase Rolled = rolled

-- a call that decides nothing: the phase stays, or gathering ends in rolling back
abbrev pub Moves : Phase → Phase → Type 0
Moves x y = (y ≡ x) ⊎ ((x ≡ gathering) × (y ≡ rolled))

abbrev pub phase_code : Phase → ℕ
phase_code gathering = 0
phase_code noted = 1
phase_code committed = 2
phase_code rolled = 3

-- no coordinator is in two phases
pub clash : {A : Type 0} (x y z : Phase) → x ≡ y → x ≡ z → eqb (phase_code y) (phase_code z) ≡ false → A
clash x y z e f d = absurd (eqb-false (phase_code y) (phase_code z) d (ap phase_code (sym e ∙ f)))

pub is_state : (y x : State) → is y x ≡ true → x ≡ y
is_state y x e = grind arith

gathers-phase : (x : State) → gathers x ≡ true → phase x ≡ gathering
gathers-phase x e = grind arith

decided-phase : (x : State) → is Rolled x ≡ false → gathers x ≡ false → is Noted x ≡ false → phase x ≡ committed
decided-phase x a b c = grind arith

-- ── what a table shows while votes are gathered ──

abbrev pub Shows : ℕ → State → List Note → ℕ → Standing → Type 0
Shows t x posted s Idle = leb (state_code x) (state_code VolatileVoting) ≡ true
Shows t x posted s Asked = leb (state_code x) (state_code DurableVoting) ≡ true
Shows t x posted s Voted = Among t s Prepared posted
Shows t x posted s Gone = Among t s ReadOnly posted
Shows t x posted s Heard = ⊥

abbrev pub PlaceOk : ℕ → State → List Note → ℕ → Place → Type 0
PlaceOk t x posted s Vacant = Unit {0}
PlaceOk t x posted s (Seated (d, y)) = Shows t x posted s y

pub record TableOk (t : ℕ) (x : State) (ps : List Place) (seats : List Party) (posted : List Note) : Type 0 where
  pub covers : (s : ℕ) → get_or ps s Vacant ≡ Vacant → get_or seats s nobody ≡ nobody
  pub places : (s : ℕ) → PlaceOk t x posted s (get_or ps s Vacant)

abbrev pub CoordOk : ℕ → Coord → List Party → List Note → Type 0
CoordOk t c seats posted = phase c.state ≡ gathering → TableOk t c.state c.table seats posted

-- what stands behind a notification of a coordinator
abbrev pub MayGive : Kind → State → Type 0
MayGive Prepare x = Unit {0}
MayGive Commit x = phase x ≡ committed
MayGive Rollback x = phase x ≡ rolled
MayGive Prepared x = ⊥
MayGive ReadOnly x = ⊥
MayGive Aborted x = ⊥
MayGive Committed x = ⊥

abbrev pub Given : ℕ → List Note → State → Type 0
Given t ns x = (n : Note) → In n ns → (n.transaction ≡ t) × MayGive n.kind x

-- what a call keeps that left the coordinator c' and gave these
pub record CoordGood (t : ℕ) (seats : List Party) (posted : List Note) (c c' : Coord) (ns : List Note) : Type 0 where
  pub still : CoordOk t c' seats posted
  pub moves : Moves (phase c.state) (phase c'.state)
  pub sent : Given t ns c'.state

-- every registered seat has sent its vote
abbrev pub AllSaid : ℕ → List Party → List Note → Type 0
AllSaid t seats posted = (s : ℕ) → (get_or seats s nobody ≡ nobody → ⊥) → Among t s Prepared posted ⊎ Among t s ReadOnly posted

-- ── lists of places ──

vacant-seated : {A : Type 0} (d : Durability) (x : Standing) → ◌≡◌ {A = Place} (Seated (d, x)) Vacant → A
vacant-seated d x e = let z : ◌≡◌ {A = ℕ} 0 1 = cc in absurd (let n : ⊥ = omega arith in n)

none-at : (q : Place → Bool) (ps : List Place) → q Vacant ≡ false → none_is q ps ≡ true → (s : ℕ) → q (get_or ps s Vacant) ≡ false
none-at q [] v e s = v
none-at q (p ∷ ps) v e zero = not-true (q p) (and_parts (not (q p)) (none_is q ps) e).0
none-at q (p ∷ ps) v e (suc s) = none-at q ps v (and_parts (not (q p)) (none_is q ps) e).1 s

ask-vacant : (f : Durability → Bool) (p : Place) → ask f p ≡ Vacant → p ≡ Vacant
ask-vacant f Vacant e = refl
ask-vacant f (Seated (d, x)) e = vacant-seated d _ e

-- the first vacant place is one, and can be filled
pub vacant-at : (i : ℕ) (ps : List Place) (n : ℕ) → vacant_from i ps ≡ Some n
    → (j : ℕ) × (n ≡ i + j) × (get_or ps j Vacant ≡ Vacant) × ((p : Place) → get_or (set ps j p) j Vacant ≡ p)
vacant-at i [] n e = let z : ◌≡◌ {A = ℕ} 0 1 = cc in absurd (let n : ⊥ = omega arith in n)
vacant-at i (Vacant ∷ ps) n e = let q : i ≡ n = cc in (0, omega arith, refl, λ p. refl)
vacant-at i (Seated (d, x) ∷ ps) n e =
    let h = vacant-at (suc i) ps n e in let q : n ≡ suc i + h.0 = h.1 in (suc h.0, omega arith, h.2, h.3)

module _ (t : ℕ) where
  each-kind : (k : Kind) (q : Place → Bool) (i : ℕ) (ps : List Place) (n : Note) → In n (to_each t k q i ps) → (n.transaction ≡ t) × (n.kind ≡ k)
  each-kind k q i [] n h = absurd h
  each-kind k q i (p ∷ ps) n h = go (q p) h (each-kind k q (suc i) ps n)
    where
      go : (b : Bool) → In n (cond b (note t i k ∷ to_each t k q (suc i) ps) (to_each t k q (suc i) ps)) → (In n (to_each t k q (suc i) ps) → (n.transaction ≡ t) × (n.kind ≡ k))
          → (n.transaction ≡ t) × (n.kind ≡ k)
      go true (inl e) ih = (ap (λ (m : Note). m.transaction) e, ap (λ (m : Note). m.kind) e)
      go true (inr a) ih = ih a
      go false a ih = ih a

  kind-given : (k : Kind) (x : State) (ns : List Note) → MayGive k x → ((n : Note) → In n ns → (n.transaction ≡ t) × (n.kind ≡ k)) → Given t ns x
  kind-given k x ns m f n h = let e = f n h in (e.0, subst (λ (j : Kind). MayGive j x) (sym e.1) m)

  pub each-given : (k : Kind) (q : Place → Bool) (i : ℕ) (ps : List Place) (x : State) → MayGive k x → Given t (to_each t k q i ps) x
  each-given k q i ps x m = kind-given k x _ m (each-kind k q i ps)

  one-given : (s : ℕ) (k : Kind) (x : State) → MayGive k x → Given t (note t s k ∷ []) x
  one-given s k x m n (inl e) = (ap (λ (m : Note). m.transaction) e, subst (λ (m : Note). MayGive m.kind x) (sym e) m)
  one-given s k x m n (inr h) = absurd h

  module _ (seats : List Party) (posted : List Note) where
    abbrev pub Good : Coord → CoordTurn → Type 0
    Good c turn = CoordGood t seats posted c turn.after turn.sent

    pub same : (c : Coord) (ns : List Note) → CoordOk t c seats posted → Given t ns c.state → CoordGood t seats posted c c ns
    same c ns o g = record { still = o; moves = inl refl; sent = g }

    pub silent : (c : Coord) → CoordOk t c seats posted → CoordGood t seats posted c c []
    silent c o = same c [] o (λ n h. absurd h)

    -- rolling back while votes are gathered, with whatever table
    pub rolls : (c : Coord) (ps : List Place) → phase c.state ≡ gathering → CoordGood t seats posted c (coord Rolled ps) (to_each t Rollback remains 0 ps)
    rolls c ps g =
        record { still = λ e. clash rolled rolled gathering refl e refl; moves = inr (g, refl); sent = each-given Rollback remains 0 ps Rolled refl }

    -- once decided, only the table and Done are left to change
    pub ends : (c c' : Coord) (ns : List Note) → phase c.state ≡ committed → phase c'.state ≡ committed → Given t ns c'.state → CoordGood t seats posted c c' ns
    ends c c' ns e f g = record { still = λ h. clash (phase c'.state) committed gathering f h refl; moves = inl (f ∙ sym e); sent = g }

    -- ── advancing ──
    abbrev Ahead : Coord → Type 0
    Ahead c = (phase c.state ≡ gathering) × TableOk t c.state c.table seats posted

    ready-place : (s : ℕ) (p : Place) → PlaceOk t DurableVoting posted s p → asked p ≡ false → PlaceOk t Ready posted s p
    ready-place s Vacant o q = tt
    ready-place s (Seated (d, Idle)) o q = o
    ready-place s (Seated (d, Asked)) o q = sym q
    ready-place s (Seated (d, Voted)) o q = o
    ready-place s (Seated (d, Gone)) o q = o
    ready-place s (Seated (d, Heard)) o q = o

    durable-place : (s : ℕ) (p : Place) → PlaceOk t VolatileVoting posted s p → pending_volatile p ≡ false → PlaceOk t DurableVoting posted s (ask is_durable p)
    durable-place s Vacant o q = tt
    durable-place s (Seated (Volatile, Idle)) o q = sym q
    durable-place s (Seated (Volatile, Asked)) o q = refl
    durable-place s (Seated (Volatile, Voted)) o q = o
    durable-place s (Seated (Volatile, Gone)) o q = o
    durable-place s (Seated (Volatile, Heard)) o q = o
    durable-place s (Seated (Durable, Idle)) o q = refl
    durable-place s (Seated (Durable, Asked)) o q = refl
    durable-place s (Seated (Durable, Voted)) o q = o
    durable-place s (Seated (Durable, Gone)) o q = o
    durable-place s (Seated (Durable, Heard)) o q = o

    volatile-place : (s : ℕ) (p : Place) → PlaceOk t Active posted s p → PlaceOk t VolatileVoting posted s (ask is_volatile p)
    volatile-place s Vacant o = tt
    volatile-place s (Seated (Volatile, Idle)) o = refl
    volatile-place s (Seated (Volatile, Asked)) o = refl
    volatile-place s (Seated (Volatile, Voted)) o = o
    volatile-place s (Seated (Volatile, Gone)) o = o
    volatile-place s (Seated (Volatile, Heard)) o = o
    volatile-place s (Seated (Durable, Idle)) o = refl
    volatile-place s (Seated (Durable, Asked)) o = refl
    volatile-place s (Seated (Durable, Voted)) o = o
    volatile-place s (Seated (Durable, Gone)) o = o
    volatile-place s (Seated (Durable, Heard)) o = o

    -- each Idle seat of a durability is asked
    asked-table : (x y : State) (f : Durability → Bool) (ps : List Place) → ((s : ℕ) → PlaceOk t y posted s (ask f (get_or ps s Vacant)))
        → TableOk t x ps seats posted → TableOk t y (map (ask f) ps) seats posted
    asked-table x y f ps h o =
        record {
          covers = λ s e. o.covers s (ask-vacant f (get_or ps s Vacant) (sym (get_or-mapped (ask f) ps s Vacant refl) ∙ e));
          places = λ s. subst (PlaceOk t y posted s) (sym (get_or-mapped (ask f) ps s Vacant refl)) (h s);
        }

    at-state : (c : Coord) (y : State) → c.state ≡ y → Ahead c → TableOk t y c.table seats posted
    at-state c y e a = subst (λ (x : State). TableOk t x c.table seats posted) e a.1

    durable-ahead : (c : Coord) → Ahead c → Ahead (durable_asked c)
    durable-ahead c a = cond_both (starts_durable c) _ _ Ahead starts (λ e. a)
      where
        starts : starts_durable c ≡ true → Ahead (coord DurableVoting (map (ask is_durable) c.table))
        starts e =
            let h = and_parts (is VolatileVoting c.state) (none_is pending_volatile c.table) e in
            let o = at-state c VolatileVoting (is_state VolatileVoting c.state h.0) a in (
              refl,
              asked-table VolatileVoting DurableVoting is_durable c.table
                  (λ s. durable-place s (get_or c.table s Vacant) (o.places s) (none-at pending_volatile c.table refl h.1 s)) o,
            )

    ready-ahead : (c : Coord) → Ahead c → Ahead (readied c)
    ready-ahead c a = cond_both (is DurableVoting c.state && none_is asked c.table) _ _ Ahead readies (λ e. a)
      where
        readies : is DurableVoting c.state && none_is asked c.table ≡ true → Ahead (in_state Ready c)
        readies e =
            let h = and_parts (is DurableVoting c.state) (none_is asked c.table) e in
            let o = at-state c DurableVoting (is_state DurableVoting c.state h.0) a in
            (refl, record { covers = o.covers; places = λ s. ready-place s (get_or c.table s Vacant) (o.places s) (none-at asked c.table refl h.1 s) })

    prepares : (c : Coord) (x : State) → Given t (durable_prepares t c) x
    prepares c x = cond_both (starts_durable c) _ _ (λ ns. Given t ns x) (λ e. each-given Prepare idle_durable 0 c.table x tt) (λ e n h. absurd h)

    advance-good : (c₀ c : Coord) (ns : List Note) → phase c₀.state ≡ gathering → Ahead c → ((x : State) → Given t ns x) → Good c₀ (advance t ns c)
    advance-good c₀ c ns g a h =
        let b = ready-ahead (durable_asked c) (durable-ahead c a) in
        record {
          still = λ e. b.1;
          moves = inl (b.0 ∙ sym g);
          sent = λ n k. elim (in-cases n ns (durable_prepares t c) k) [ inl m ↦ h _ n m | inr m ↦ prepares c _ n m ];
        }

    -- ── the calls, of a coordinator with its facts ──
    module _ (c : Coord) (o : CoordOk t c seats posted) where
      within-room : (room : ℕ) (turn : CoordTurn) → Good c turn → Good c (in_room room coord_room c turn)
      within-room room turn g = cond_both (ltb room coord_room) _ _ (Good c) (λ e. silent c o) (λ e. g)

      by_right_lem : (room r : ℕ) (turn : CoordTurn) → Good c turn → Good c (by_right t room r c turn)
      by_right_lem room r turn g = within-room room _ (cond_both (eqb r t) _ _ (Good c) (λ e. g) (λ e. silent c o))

      active-gathers : is Active c.state ≡ true → phase c.state ≡ gathering
      active-gathers e = ap phase (is_state Active c.state e)

      volatile-good : is Active c.state ≡ true → Good c (volatile_asked t c)
      volatile-good e =
          let g = active-gathers e in
          let k = at-state c Active (is_state Active c.state e) (g, o g) in
          advance-good c (coord VolatileVoting (map (ask is_volatile) c.table)) _ g
          (refl, asked-table Active VolatileVoting is_volatile c.table (λ s. volatile-place s (get_or c.table s Vacant) (k.places s)) k)
          (λ x. each-given Prepare idle_volatile 0 c.table x tt)

      pub commit-good : (room r : ℕ) → Good c (ask_commit t room r c)
      commit-good room r = by_right_lem room r (commit_asked t c) (cond_both (is Active c.state) _ _ (Good c) volatile-good (λ e. silent c o))

      pub rollback-good : (room r : ℕ) → Good c (ask_rollback t room r c)
      rollback-good room r = by_right_lem room r (rollback_asked t c) (cond_both (is Active c.state) _ _ (Good c) (λ e. rolls c c.table (active-gathers e)) (λ e. silent c o))

      pub outcome-good : Good c (ask_outcome c)
      outcome-good = silent c o

      pub expire-good : (room : ℕ) → Good c (expire t room c)
      expire-good room =
          within-room room _ (cond_both (gathers c.state) _ _ (Good c) (λ e. rolls c c.table (gathers-phase c.state e)) (λ e. silent c o))

      committing : is Committing c.state ≡ true → phase c.state ≡ committed
      committing e = ap phase (is_state Committing c.state e)

      pub resend-good : (room : ℕ) → Good c (resend t room c)
      resend-good room = within-room room _ (same c _ o reminders)
        where
          reminders : Given t (resends t c) c.state
          reminders =
              cond_both (is VolatileVoting c.state || is DurableVoting c.state) _ _ (λ ns. Given t ns c.state)
              (λ e. each-given Prepare asked 0 c.table c.state tt)
              (λ e. cond_both (is Committing c.state) _ _ (λ ns. Given t ns c.state)
              (λ f. each-given Commit voted_durable 0 c.table c.state (committing f)) (λ f n h. absurd h))

      -- ── receiving of kind k from seat s, where it was posted ──
      module _ (s : ℕ) (k : Kind) (h : Among t s k posted) where
        stands-shows : (y z : Standing) → verdict k y ≡ stands z → (x : State) → Shows t x posted s z
        stands-shows y z e x = elim (why k y z e) [
          | inl q ↦ subst (λ (a : Standing). Shows t x posted s a) (sym q.1) (subst (λ (j : Kind). Among t s j posted) q.0 h)
          | inr q ↦ subst (λ (a : Standing). Shows t x posted s a) (sym q.1) (subst (λ (j : Kind). Among t s j posted) q.0 h)
        ]
          where
            why : (j : Kind) (y z : Standing) → verdict j y ≡ stands z → ((j ≡ Prepared) × (z ≡ Voted)) ⊎ ((j ≡ ReadOnly) × (z ≡ Gone))
            why j y z e = grind arith

        -- the seat stands so from now on
        placed : (d : Durability) (z : Standing) → ((x : State) → Shows t x posted s z) → phase c.state ≡ gathering → Ahead (with_place s (Seated (d, z)) c)
        placed d z q g = (
          g,
          record {
            covers = λ j e. elim (set_cases c.table s (Seated (d, z)) j Vacant) [
              | inl a ↦ vacant-seated d z (sym a.1 ∙ e)
              | inr a ↦ (o g).covers j (sym a ∙ e)
            ];
            places = λ j. elim (set_cases c.table s (Seated (d, z)) j Vacant) [
              | inl a ↦ subst (PlaceOk t c.state posted j) (sym a.1) (subst (λ (i : ℕ). Shows t c.state posted i z) a.0 (q c.state))
              | inr a ↦ subst (PlaceOk t c.state posted j) (sym a) ((o g).places j)
            ];
          },
        )

        judge-good : (d : Durability) (y : Standing) (v : Verdict) → verdict k y ≡ v → phase c.state ≡ gathering → Good c (judge t s d v c)
        judge-good d y ignored e g = advance-good c c [] g (g, o g) (λ x n a. absurd a)
        judge-good d y (stands z) e g = advance-good c (with_place s (Seated (d, z)) c) [] g (placed d z (stands-shows y z e) g) (λ x n a. absurd a)
        judge-good d y withdraws e g = rolls c (set c.table s (Seated (d, Gone))) g
        judge-good d y breaks e g = rolls c c.table g

        noted-good : Good c (hear_noted s k c)
        noted-good = go k
          where
            go : (j : Kind) → Good c (hear_noted s j c)
            go Prepare = silent c o
            go Commit = silent c o
            go Rollback = silent c o
            go Prepared = silent c o
            go ReadOnly = silent c o
            go Aborted = silent c o
            go Committed = silent c o

        committed-good : (d : Durability) (y : Standing) → phase c.state ≡ committed → Good c (hear_committed s d y c)
        committed-good d y g =
            cond_both (is_durable d && is_voted y) _ _ (Good c)
            (λ e. cond_both (none_is voted_durable (set c.table s (Seated (d, Heard)))) _ _ (λ c'. CoordGood t seats posted c c' [])
            (λ f. ends c _ [] g refl (λ n a. absurd a)) (λ f. ends c _ [] g g (λ n a. absurd a)))
            (λ e. silent c o)

        decided-good : (d : Durability) (y : Standing) → phase c.state ≡ committed → Good c (hear_decided t s k d y c)
        decided-good d y g = go k
          where
            go : (j : Kind) → Good c (hear_decided t s j d y c)
            go Prepare = silent c o
            go Commit = silent c o
            go Rollback = silent c o
            go Prepared = same c _ o (one-given s Commit c.state g)
            go ReadOnly = silent c o
            go Aborted = silent c o
            go Committed = committed-good d y g

        rolled-good : phase c.state ≡ rolled → Good c (hear_rolled t s k c)
        rolled-good g = go k
          where
            go : (j : Kind) → Good c (hear_rolled t s j c)
            go Prepare = silent c o
            go Commit = silent c o
            go Rollback = silent c o
            go Prepared = same c _ o (one-given s Rollback c.state g)
            go ReadOnly = silent c o
            go Aborted = silent c o
            go Committed = silent c o

        from-good : (p : Place) → is Rolled c.state ≡ false → Good c (hear_from t s k p c)
        from-good Vacant r = silent c o
        from-good (Seated (d, y)) r =
            cond_both (is_gone y) _ _ (Good c) (λ e. silent c o)
            (λ e. cond_both (gathers c.state) _ _ (Good c) (λ g. judge-good d y (verdict k y) refl (gathers-phase c.state g))
            (λ g. cond_both (is Noted c.state) _ _ (Good c) (λ f. noted-good) (λ f. decided-good d y (decided-phase c.state r g f))))

        hear-good : Good c (hear t s k c)
        hear-good =
            cond_both (is Rolled c.state) _ _ (Good c)
            (λ e. rolled-good (ap phase (is_state Rolled c.state e))) (λ e. from-good (get_or c.table s Vacant) e)

      pub receive-good : (room : ℕ) (n : Note) → (n.transaction ≡ t → In n posted) → Good c (receive t room n c)
      receive-good room n h = go (admitted t room n) refl
        where
          own : (b e d : Bool) → cond b (Err short_outbox) (cond e (cond d (Ok tt) (Err misdirected)) (Err other_transaction)) ≡ admitted t room n
              → admitted t room n ≡ Ok tt → e ≡ true
          own b e d p q = grind arith

          go : (a : Result (Unit {0}) (Report State)) → admitted t room n ≡ a → Good c (heed t a n c)
          go (Ok _) e =
              let q = eqb-true n.transaction t (own (ltb room coord_room) (eqb n.transaction t) (goes_up n.kind) refl e) in
              hear-good n.seat n.kind (n, h q, q, refl, refl)
          go (Err f) e = silent c o

-- ── registering: refused, or a seat that nobody had ──

pub data Registering (t : ℕ) (d : Durability) (c : Coord) (seats : List Party) (posted : List Note) : CoordTurn → Type 0 where
  refused : (f : Report State) → Registering t d c seats posted (refuses c f)
  granted : (n : ℕ) → get_or seats n nobody ≡ nobody → phase c.state ≡ gathering
      → CoordGood t (set seats n (new_party d)) posted c (seat_at t d c (Some n)).after (seat_at t d c (Some n)).sent
      → Registering t d c seats posted (seat_at t d c (Some n))

module _ (t : ℕ) (d : Durability) (c : Coord) (seats : List Party) (posted : List Note) (o : CoordOk t c seats posted) where
  abbrev Fine : CoordTurn → Type 0
  Fine turn = Registering t d c seats posted turn

  open-state : is Active c.state || is VolatileVoting c.state ≡ true → (c.state ≡ Active) ⊎ (c.state ≡ VolatileVoting)
  open-state e = elim (or_cases (is Active c.state) (is VolatileVoting c.state) e) [
    | inl a ↦ inl (is_state Active c.state a)
    | inr a ↦ inr (is_state VolatileVoting c.state a)
  ]

  -- a new seat is Idle or Asked, as its state allows
  new-shows : (x : State) (s : ℕ) → (x ≡ Active) ⊎ (x ≡ VolatileVoting) → Shows t x posted s (new_standing x d)
  new-shows x s (inl e) = subst (λ (x : State). Shows t x posted s (new_standing x d)) (sym e) refl
  new-shows x s (inr e) = subst (λ (x : State). Shows t x posted s (new_standing x d)) (sym e) (go d)
    where
      go : (d : Durability) → Shows t VolatileVoting posted s (new_standing VolatileVoting d)
      go Volatile = refl
      go Durable = refl

  seat-good : (n : ℕ) → vacant_from 0 c.table ≡ Some n → (c.state ≡ Active) ⊎ (c.state ≡ VolatileVoting) → Fine (seat_at t d c (Some n))
  seat-good n v h =
      granted n free g
      (record { still = λ e. record { covers = covers; places = places }; moves = inl refl; sent = each-given t Prepare asked n (Seated (d, new_standing c.state d) ∷ []) c.state tt })
    where
      g : phase c.state ≡ gathering
      g = elim h [ inl e ↦ ap phase e | inr e ↦ ap phase e ]

      p : Place
      p = Seated (d, new_standing c.state d)

      at : (get_or c.table n Vacant ≡ Vacant) × (get_or (set c.table n p) n Vacant ≡ p)
      at =
          let w = vacant-at 0 c.table n v in
          let q : w.0 ≡ n = let f = w.1 in omega arith in
          (subst (λ (j : ℕ). get_or c.table j Vacant ≡ Vacant) q w.2, subst (λ (j : ℕ). get_or (set c.table j p) j Vacant ≡ p) q (w.3 p))

      free : get_or seats n nobody ≡ nobody
      free = (o g).covers n at.0

      covers : (s : ℕ) → get_or (set c.table n p) s Vacant ≡ Vacant → get_or (set seats n (new_party d)) s nobody ≡ nobody
      covers s e = elim (set_cases seats n (new_party d) s nobody) [
        | inl a ↦ vacant-seated d _ (sym at.1 ∙ subst (λ (j : ℕ). get_or (set c.table n p) j Vacant ≡ Vacant) (sym a.0) e)
        | inr a ↦ a ∙ elim (set_cases c.table n p s Vacant) [ inl b ↦ vacant-seated d _ (sym b.1 ∙ e) | inr b ↦ (o g).covers s (sym b ∙ e) ]
      ]

      places : (s : ℕ) → PlaceOk t c.state posted s (get_or (set c.table n p) s Vacant)
      places s = elim (set_cases c.table n p s Vacant) [
        | inl a ↦ subst (PlaceOk t c.state posted s) (sym a.1) (new-shows c.state s h)
        | inr a ↦ subst (PlaceOk t c.state posted s) (sym a) ((o g).places s)
      ]

  pub register-good : (room : ℕ) → Fine (register t room d c)
  register-good room =
      cond_both (ltb room coord_room) _ _ Fine (λ e. refused _)
      (λ e. cond_both (is Active c.state || is VolatileVoting c.state) _ _ Fine
      (λ f. go (vacant_from 0 c.table) refl (open-state f)) (λ f. refused _))
    where
      go : (v : Option ℕ) → vacant_from 0 c.table ≡ v → (c.state ≡ Active) ⊎ (c.state ≡ VolatileVoting) → Fine (seat_at t d c v)
      go None e h = refused _
      go (Some n) e h = seat-good n e h

-- ── in Ready every registered seat has sent its vote ──

pub ready-said : (t : ℕ) (ps : List Place) (seats : List Party) (posted : List Note) → TableOk t Ready ps seats posted → AllSaid t seats posted
ready-said t ps seats posted o s r = go (get_or ps s Vacant) refl (o.places s)
  where
    go : (p : Place) → get_or ps s Vacant ≡ p → PlaceOk t Ready posted s p → Among t s Prepared posted ⊎ Among t s ReadOnly posted
    go Vacant e q = absurd (r (o.covers s e))
    go (Seated (d, Idle)) e q = absurd (both_ways true (sym q) refl)
    go (Seated (d, Asked)) e q = absurd (both_ways true (sym q) refl)
    go (Seated (d, Voted)) e q = inl q
    go (Seated (d, Gone)) e q = inr q
    go (Seated (d, Heard)) e q = absurd q
