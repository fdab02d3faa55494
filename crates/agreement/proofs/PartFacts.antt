-- What a durable participant's calls keep, by its own log alone. The coordinator enters by two types: D, it has decided; R, it has rolled back.
use Rattle.std.proofs.Common.{◌≡◌, ℕ, Bool, true, false, cond, eqb, ltb, leb, ◌⊎◌, List, [], ◌∷◌, Some, None, Ok, Err, Option, Result, sym, refl, ap, subst, inl, inr, arith}
use Rattle.std.proofs.lemmas.Bool.{cond_both, cond-true, cond-false, eqb-true, ne_eqb, or_cases, or_left, or_right, both_ways, and_parts}
use Rattle.lines.specs.Lines.{In}
use Rattle.records.specs.Recs.{Rec}
use Rattle.words.specs.Notes.{Note}
use Rattle.agreement.proofs.LogFacts.{added_new, added-back, secured-all, secured-back, restarted-safe, restarted-back, first-none, first_some, some-has, has_some, has-imp, own_is}
use Rattle.agreement.specs.Logs.{LogState, spare, roomy, added, secured, restarted, vote_kind, kept_kind, undone_kind, is_own, is_ending, first, some_is, Has, InLog, Without}
use Rattle.agreement.specs.Names.{Kind, Prepare, Commit, Rollback, Prepared, ReadOnly, Aborted, Committed}
use Rattle.agreement.specs.Names.{PartState, Working, Voting, VoteNoted, InDoubt, Keeping, Undoing, Kept, Undone, Viewed, Unknown}
use Rattle.agreement.specs.Names.{Ballot, VotePrepared, VoteReadOnly, VoteAborted}
use Rattle.agreement.specs.ParticipantRules.{Part, PartTurn, part, part_room, Cell, ignores, sends, enters, leaves, adds, secures, invalid, contradicts, received, called}
use Rattle.agreement.specs.ParticipantRules.{own_record, play, admitted, obey, heed, receive, settle, expire, resend, vote_as, vote, ended_by, restart}
use Rattle.agreement.specs.Statement.{Bound}
use Rattle.agreement.specs.States.{part_code}
use Rattle.agreement.specs.Turns.{Report, short_outbox, misdirected, other_transaction, in_room, note}

-- ── what a state says of the log ──

abbrev pub Clean : ℕ → ℕ → LogState → Type 0
Clean t s l = Without (is_own vote_kind t s) l × Without (is_own kept_kind t s) l × Without (is_own undone_kind t s) l

abbrev pub VoteSafe : ℕ → ℕ → LogState → Type 0
VoteSafe t s l = Has (is_own vote_kind t s) l.safe

-- its Undone is safe, or it never added a Vote
abbrev pub Off : ℕ → ℕ → LogState → Type 0
Off t s l = Has (is_own undone_kind t s) l.safe ⊎ Without (is_own vote_kind t s) l

abbrev pub Facts : ℕ → ℕ → PartState → LogState → Type 0
Facts t s Working l = Clean t s l
Facts t s Voting l = Clean t s l
Facts t s VoteNoted l = InLog (is_own vote_kind t s) l × (VoteSafe t s l → ⊥)
Facts t s InDoubt l = VoteSafe t s l
Facts t s Keeping l = InLog (is_own kept_kind t s) l
Facts t s Undoing l = InLog (is_own undone_kind t s) l
Facts t s Kept l = Has (is_own kept_kind t s) l.safe
Facts t s Undone l = Off t s l
Facts t s Viewed l = Clean t s l
Facts t s Unknown l = Clean t s l

-- whoever has a safe Vote is bound by it
pub voted-bound : (t s : ℕ) (x : PartState) (l : LogState) → Facts t s x l → VoteSafe t s l → Bound x
voted-bound t s Working l f v = f.0 (inl v)
voted-bound t s Voting l f v = f.0 (inl v)
voted-bound t s VoteNoted l f v = f.1 v
voted-bound t s InDoubt l f v = tt
voted-bound t s Keeping l f v = tt
voted-bound t s Undoing l f v = tt
voted-bound t s Kept l f v = tt
voted-bound t s Undone l f v = tt
voted-bound t s Viewed l f v = f.0 (inl v)
voted-bound t s Unknown l f v = f.0 (inl v)

-- it may have said ReadOnly, and stands by it
abbrev pub Viewing : ℕ → ℕ → PartState → LogState → Type 0
Viewing t s x l = Clean t s l × ((x ≡ Viewed) ⊎ (x ≡ Unknown))

pub record PartOk (D R : Type 0) (t s : ℕ) (x : PartState) (l : LogState) : Type 0 where
  pub facts : Facts t s x l
  pub kept : InLog (is_own kept_kind t s) l → D
  pub undone : InLog (is_own undone_kind t s) l → R

-- what stands behind a notification of a participant
abbrev pub MaySend : ℕ → ℕ → Kind → PartState → LogState → Type 0
MaySend t s Prepare x l = ⊥
MaySend t s Commit x l = ⊥
MaySend t s Rollback x l = ⊥
MaySend t s Prepared x l = VoteSafe t s l
MaySend t s ReadOnly x l = Viewing t s x l
MaySend t s Aborted x l = Unit {0}
MaySend t s Committed x l = Unit {0}

abbrev Backed : ℕ → ℕ → List Note → PartState → LogState → Type 0
Backed t s ns x l = (n : Note) → In n ns → (n.transaction ≡ t) × (n.seat ≡ s) × MaySend t s n.kind x l

-- what a call keeps that left the participant q and gave these
pub record PartGood (D R : Type 0) (t s : ℕ) (x : PartState) (l : LogState) (q : Part) (ns : List Note) : Type 0 where
  pub still : PartOk D R t s q.state q.log
  pub voted : VoteSafe t s l → VoteSafe t s q.log
  pub viewing : Viewing t s x l → Viewing t s q.state q.log
  pub sent : Backed t s ns q.state q.log

-- ── the cells that are sound in a state ──

pub data Sound (D R : Type 0) : PartState → Cell → Type 0 where
  idle : (x : PartState) → Sound D R x ignores
  faulty : (x : PartState) → Sound D R x invalid
  torn : (x : PartState) → Sound D R x contradicts
  says_aborted : (x : PartState) → Sound D R x (sends Aborted)
  says_committed : (x : PartState) → Sound D R x (sends Committed)
  votes_again : Sound D R InDoubt (sends Prepared)
  views_again : Sound D R Viewed (sends ReadOnly)
  now_asked : Sound D R Working (enters Voting)
  gives_up_work : Sound D R Working (leaves Aborted Undone)
  gives_up : Sound D R Voting (leaves Aborted Undone)
  views : Sound D R Voting (leaves ReadOnly Viewed)
  keeps : D → Sound D R InDoubt (adds kept_kind Keeping)
  undoes_noted : R → Sound D R VoteNoted (adds undone_kind Undoing)
  undoes : R → Sound D R InDoubt (adds undone_kind Undoing)
  vote_safe : Sound D R VoteNoted (secures Prepared InDoubt)
  kept_safe : Sound D R Keeping (secures Committed Kept)
  undone_safe : Sound D R Undoing (secures Aborted Undone)

module _ (D R : Type 0) where
  prepare-sound : (x : PartState) → Sound D R x (received x).prepare
  prepare-sound Working = now_asked
  prepare-sound Voting = idle Voting
  prepare-sound VoteNoted = idle VoteNoted
  prepare-sound InDoubt = votes_again
  prepare-sound Keeping = idle Keeping
  prepare-sound Undoing = idle Undoing
  prepare-sound Kept = idle Kept
  prepare-sound Undone = says_aborted Undone
  prepare-sound Viewed = views_again
  prepare-sound Unknown = says_aborted Unknown

  commit-sound : D → (x : PartState) → Sound D R x (received x).commit
  commit-sound d Working = faulty Working
  commit-sound d Voting = faulty Voting
  commit-sound d VoteNoted = faulty VoteNoted
  commit-sound d InDoubt = keeps d
  commit-sound d Keeping = idle Keeping
  commit-sound d Undoing = torn Undoing
  commit-sound d Kept = says_committed Kept
  commit-sound d Undone = torn Undone
  commit-sound d Viewed = says_committed Viewed
  commit-sound d Unknown = says_committed Unknown

  rollback-sound : R → (x : PartState) → Sound D R x (received x).rollback
  rollback-sound r Working = gives_up_work
  rollback-sound r Voting = gives_up
  rollback-sound r VoteNoted = undoes_noted r
  rollback-sound r InDoubt = undoes r
  rollback-sound r Keeping = torn Keeping
  rollback-sound r Undoing = idle Undoing
  rollback-sound r Kept = torn Kept
  rollback-sound r Undone = says_aborted Undone
  rollback-sound r Viewed = says_aborted Viewed
  rollback-sound r Unknown = says_aborted Unknown

  settling-sound : (x : PartState) → Sound D R x (called x).settling
  settling-sound Working = idle Working
  settling-sound Voting = idle Voting
  settling-sound VoteNoted = vote_safe
  settling-sound InDoubt = idle InDoubt
  settling-sound Keeping = kept_safe
  settling-sound Undoing = undone_safe
  settling-sound Kept = idle Kept
  settling-sound Undone = idle Undone
  settling-sound Viewed = idle Viewed
  settling-sound Unknown = idle Unknown

  expiry-sound : (x : PartState) → Sound D R x (called x).expiry
  expiry-sound Working = gives_up_work
  expiry-sound Voting = gives_up
  expiry-sound VoteNoted = idle VoteNoted
  expiry-sound InDoubt = idle InDoubt
  expiry-sound Keeping = idle Keeping
  expiry-sound Undoing = idle Undoing
  expiry-sound Kept = idle Kept
  expiry-sound Undone = idle Undone
  expiry-sound Viewed = idle Viewed
  expiry-sound Unknown = idle Unknown

  resending-sound : (x : PartState) → Sound D R x (called x).resending
  resending-sound Working = idle Working
  resending-sound Voting = idle Voting
  resending-sound VoteNoted = idle VoteNoted
  resending-sound InDoubt = votes_again
  resending-sound Keeping = idle Keeping
  resending-sound Undoing = idle Undoing
  resending-sound Kept = idle Kept
  resending-sound Undone = idle Undone
  resending-sound Viewed = idle Viewed
  resending-sound Unknown = idle Unknown

-- ── a sound cell keeps the facts ──

-- a state in which nobody stands by ReadOnly
not-viewing : (t s : ℕ) (x : PartState) (l : LogState) (A : Type 0)
    → (x ≡ Working) ⊎ (x ≡ Voting) ⊎ (x ≡ VoteNoted) ⊎ (x ≡ InDoubt) ⊎ (x ≡ Keeping) ⊎ (x ≡ Undoing) → Viewing t s x l → A
not-viewing t s x l A h v = let q : (x ≡ Viewed) ⊎ (x ≡ Unknown) = v.1 in let z : ◌≡◌ {A = ℕ} 0 1 = grind arith in absurd (let n : ⊥ = omega arith in n)

module _ (D R : Type 0) (t s : ℕ) where
  none-sent : (x : PartState) (l : LogState) → Backed t s [] x l
  none-sent x l n h = absurd h

  one-sent : (k : Kind) (x : PartState) (l : LogState) → MaySend t s k x l → Backed t s (note t s k ∷ []) x l
  one-sent k x l a n (inl e) =
      (ap (λ (m : Note). m.transaction) e, ap (λ (m : Note). m.seat) e, subst (λ (m : Note). MaySend t s m.kind x l) (sym e) a)
  one-sent k x l a n (inr h) = absurd h

  module _ (l : LogState) where
    abbrev Good : PartState → PartTurn → Type 0
    Good x turn = PartGood D R t s x l turn.after turn.sent

    stay : (x : PartState) (ns : List Note) → Backed t s ns x l → PartOk D R t s x l → PartGood D R t s x l (part x l) ns
    stay x ns m i = record { still = i; voted = λ v. v; viewing = λ v. v; sent = m }

    silent : (x : PartState) → PartOk D R t s x l → PartGood D R t s x l (part x l) []
    silent x i = stay x [] (none-sent x l) i

    -- it enters a state, with no change of the log
    move : (x y : PartState) (ns : List Note) → (x ≡ Working) ⊎ (x ≡ Voting) → Facts t s y l → Backed t s ns y l → PartOk D R t s x l
        → PartGood D R t s x l (part y l) ns
    move x y ns h f m i =
        record {
          still = record { facts = f; kept = i.kept; undone = i.undone };
          voted = λ v. v;
          viewing = not-viewing t s x l _ (elim h [ inl e ↦ inl e | inr e ↦ inr (inl e) ]);
          sent = m;
        }

    -- it adds a record, and enters the state that stands on it
    add_back : (k j : ℕ) → eqb k j ≡ false → InLog (is_own j t s) (added (own_record t s k) l) → InLog (is_own j t s) l
    add_back k j ne h =
        elim (added-back (is_own j t s) (own_record t s k) l h) [ inl a ↦ a | inr e ↦ absurd (both_ways (eqb k j) ne (and_parts (eqb k j) _ e).0) ]

    write : (x y : PartState) (k : ℕ) → (x ≡ Voting) ⊎ (x ≡ VoteNoted) ⊎ (x ≡ InDoubt) → Facts t s y (added (own_record t s k) l)
        → (InLog (is_own kept_kind t s) (added (own_record t s k) l) → D) → (InLog (is_own undone_kind t s) (added (own_record t s k) l) → R)
        → PartGood D R t s x l (part y (added (own_record t s k) l)) []
    write x y k h f d r =
        record {
          still = record { facts = f; kept = d; undone = r };
          voted = λ v. v;
          viewing = not-viewing t s x l _ (elim h [ inl e ↦ inr (inl e) | inr (inl e) ↦ inr (inr (inl e)) | inr (inr e) ↦ inr (inr (inr (inl e))) ]);
          sent = λ n e. absurd e;
        }

    new : (k : ℕ) → InLog (is_own k t s) (added (own_record t s k) l)
    new k = added_new (is_own k t s) (own_record t s k) l (own_is k t s)

    write-vote : PartOk D R t s Voting l → PartGood D R t s Voting l (part VoteNoted (added (own_record t s vote_kind) l)) []
    write-vote i =
        write Voting VoteNoted vote_kind (inl refl) (new vote_kind, λ v. i.facts.0 (inl v)) (λ a. i.kept (add_back vote_kind kept_kind refl a)) (λ a. i.undone (add_back vote_kind undone_kind refl a))

    write_kept : D → PartOk D R t s InDoubt l → PartGood D R t s InDoubt l (part Keeping (added (own_record t s kept_kind) l)) []
    write_kept d i = write InDoubt Keeping kept_kind (inr (inr refl)) (new kept_kind) (λ a. d) (λ a. i.undone (add_back kept_kind undone_kind refl a))

    write-undone : (x : PartState) → (x ≡ VoteNoted) ⊎ (x ≡ InDoubt) → R → PartOk D R t s x l
        → PartGood D R t s x l (part Undoing (added (own_record t s undone_kind) l)) []
    write-undone x h r i = write x Undoing undone_kind (inr h) (new undone_kind) (λ a. i.kept (add_back undone_kind kept_kind refl a)) (λ a. r)

    -- it secures its log, and enters the state that stands on that
    seal : (x y : PartState) (k : Kind) → (x ≡ VoteNoted) ⊎ (x ≡ Keeping) ⊎ (x ≡ Undoing) → Facts t s y (secured l) → MaySend t s k y (secured l) → PartOk D R t s x l
        → PartGood D R t s x l (part y (secured l)) (note t s k ∷ [])
    seal x y k h f m i =
        record {
          still = record {
            facts = f;
            kept = λ a. i.kept (secured-back (is_own kept_kind t s) l a);
            undone = λ a. i.undone (secured-back (is_own undone_kind t s) l a);
          };
          voted = λ v. secured-all (is_own vote_kind t s) l (inl v);
          viewing = not-viewing t s x l _ (elim h [ inl e ↦ inr (inr (inl e)) | inr (inl e) ↦ inr (inr (inr (inr (inl e)))) | inr (inr e) ↦ inr (inr (inr (inr (inr e)))) ]);
          sent = one-sent k y (secured l) m;
        }

    -- a cell that adds does nothing where the log is full
    unless-full : (x : PartState) (k : ℕ) (y : PartState) → PartOk D R t s x l → PartGood D R t s x l (part y (added (own_record t s k) l)) [] → Good x (play t s (adds k y) x l)
    unless-full x k y i g = cond_both (roomy l) _ _ (Good x) (λ e. g) (λ e. silent x i)

    cell-good : (x : PartState) (c : Cell) → Sound D R x c → PartOk D R t s x l → Good x (play t s c x l)
    cell-good _ _ (idle x) i = silent x i
    cell-good _ _ (faulty x) i = silent x i
    cell-good _ _ (torn x) i = silent x i
    cell-good _ _ (says_aborted x) i = stay x _ (one-sent Aborted x l tt) i
    cell-good _ _ (says_committed x) i = stay x _ (one-sent Committed x l tt) i
    cell-good _ _ votes_again i = stay InDoubt _ (one-sent Prepared InDoubt l i.facts) i
    cell-good _ _ views_again i = stay Viewed _ (one-sent ReadOnly Viewed l (i.facts, inl refl)) i
    cell-good _ _ now_asked i = move Working Voting [] (inl refl) i.facts (none-sent Voting l) i
    cell-good _ _ gives_up_work i = move Working Undone _ (inl refl) (inr i.facts.0) (one-sent Aborted Undone l tt) i
    cell-good _ _ gives_up i = move Voting Undone _ (inr refl) (inr i.facts.0) (one-sent Aborted Undone l tt) i
    cell-good _ _ views i = move Voting Viewed _ (inr refl) i.facts (one-sent ReadOnly Viewed l (i.facts, inl refl)) i
    cell-good _ _ (keeps d) i = unless-full InDoubt kept_kind Keeping i (write_kept d i)
    cell-good _ _ (undoes_noted r) i = unless-full VoteNoted undone_kind Undoing i (write-undone VoteNoted (inl refl) r i)
    cell-good _ _ (undoes r) i = unless-full InDoubt undone_kind Undoing i (write-undone InDoubt (inr refl) r i)
    cell-good _ _ vote_safe i =
        let v = secured-all (is_own vote_kind t s) l i.facts.0 in seal VoteNoted InDoubt Prepared (inl refl) v v i
    cell-good _ _ kept_safe i = seal Keeping Kept Committed (inr (inl refl)) (secured-all (is_own kept_kind t s) l i.facts) tt i
    cell-good _ _ undone_safe i = seal Undoing Undone Aborted (inr (inr refl)) (inl (secured-all (is_own undone_kind t s) l i.facts)) tt i

    -- ── the calls ──
    module _ (x : PartState) (i : PartOk D R t s x l) where
      within-room : (room : ℕ) (turn : PartTurn) → Good x turn → Good x (in_room room part_room (part x l) turn)
      within-room room turn g = cond_both (ltb room part_room) _ _ (Good x) (λ e. silent x i) (λ e. g)

      pub settle-good : (room : ℕ) → Good x (settle t s room x l)
      settle-good room = within-room room _ (cell-good x _ (settling-sound D R x) i)

      pub expire-good : (room : ℕ) → Good x (expire t s room x l)
      expire-good room = within-room room _ (cell-good x _ (expiry-sound D R x) i)

      pub resend-good : (room : ℕ) → Good x (resend t s room x l)
      resend-good room = within-room room _ (cell-good x _ (resending-sound D R x) i)

      obey-good : (k : Kind) → (k ≡ Commit → D) → (k ≡ Rollback → R) → Good x (obey t s k x l)
      obey-good Prepare d r = cell-good x _ (prepare-sound D R x) i
      obey-good Commit d r = cell-good x _ (commit-sound D R (d refl) x) i
      obey-good Rollback d r = cell-good x _ (rollback-sound D R (r refl) x) i
      obey-good Prepared d r = silent x i
      obey-good ReadOnly d r = silent x i
      obey-good Aborted d r = silent x i
      obey-good Committed d r = silent x i

      pub receive-good : (room : ℕ) (n : Note) → (n.transaction ≡ t → (n.kind ≡ Commit → D) × (n.kind ≡ Rollback → R)) → Good x (receive t s room n x l)
      receive-good room n h = go (admitted t s room n) refl
        where
          own : (b c d : Bool) → cond b (Err short_outbox) (cond c (cond d (Ok tt) (Err misdirected)) (Err other_transaction)) ≡ admitted t s room n
              → admitted t s room n ≡ Ok tt → c ≡ true
          own b c d e f = grind arith

          go : (a : Result (Unit {0}) (Report PartState)) → admitted t s room n ≡ a → Good x (heed t s a n.kind x l)
          go (Ok _) e =
              let q = h (eqb-true n.transaction t (own (ltb room part_room) (eqb n.transaction t) (eqb n.seat s) refl e)) in
              obey-good n.kind q.0 q.1
          go (Err f) e = silent x i

      pub vote-good : (room : ℕ) (b : Ballot) → Good x (vote t s room b x l)
      vote-good room b =
          within-room room _ (cond_both (eqb (part_code x) (part_code Voting)) _ _ (Good x) (λ e. ballot b x (is-voting x e) i) (λ e. silent x i))
        where
          is-voting : (y : PartState) → eqb (part_code y) (part_code Voting) ≡ true → y ≡ Voting
          is-voting y e = grind arith

          cast : PartOk D R t s Voting l → (b : Ballot) → Good Voting (vote_as t s b Voting l)
          cast j VotePrepared = cond_both (leb 2 (spare l)) _ _ (Good Voting) (λ e. write-vote j) (λ e. cell-good Voting _ gives_up j)
          cast j VoteReadOnly = cell-good Voting _ views j
          cast j VoteAborted = cell-good Voting _ gives_up j

          ballot : (b : Ballot) (y : PartState) → y ≡ Voting → PartOk D R t s y l → Good y (vote_as t s b y l)
          ballot b y e = subst (λ (y : PartState). PartOk D R t s y l → Good y (vote_as t s b y l)) (sym e) (λ j. cast j b)

      -- ── a restart ──
      module _ (k : ℕ) where
        -- the log as it is found
        abbrev l' : LogState
        l' = restarted k l

        back : (a : ℕ) → Has (is_own a t s) l'.safe → InLog (is_own a t s) l
        back a h = restarted-back (is_own a t s) k l (inl h)

        wakes : (y : PartState) → Facts t s y l' → (Viewing t s x l → Viewing t s y l') → PartGood D R t s x l (part y l') []
        wakes y f v =
            record {
              still = record {
                facts = f;
                kept = λ a. i.kept (restarted-back (is_own kept_kind t s) k l a);
                undone = λ a. i.undone (restarted-back (is_own undone_kind t s) k l a);
              };
              voted = λ a. restarted-safe (is_own vote_kind t s) k l a;
              viewing = v;
              sent = λ n h. absurd h;
            }

        -- by what the safe records say
        ends : (r : Rec) (y : PartState) → is_ending t s r ≡ true
            → ((is_own kept_kind t s r ≡ true) × (ended_by (Some r) y ≡ Kept)) ⊎ ((is_own undone_kind t s r ≡ true) × (ended_by (Some r) y ≡ Undone))
        ends r y e = elim (or_cases (is_own kept_kind t s r) (is_own undone_kind t s r) e) [
          | inl a ↦ inl (a, cond-true _ Kept Undone (and_parts (eqb r.kind kept_kind) _ a).0)
          | inr a ↦ inr (a, cond-false _ Kept Undone (ne_eqb r.kind kept_kind (λ q. let p = eqb-true r.kind undone_kind (and_parts (eqb r.kind undone_kind) _ a).0 in omega arith)))
        ]

        pub restart-good : Good x (restart t s k l)
        restart-good = go (first (is_ending t s) l'.safe) (some_is (is_own vote_kind t s) l'.safe) refl refl
          where
            no_end : (a : ℕ) → ((r : Rec) → is_own a t s r ≡ true → is_ending t s r ≡ true) → first (is_ending t s) l'.safe ≡ None → Without (is_own a t s) l'
            no_end a f q (inl h) = first-none (is_ending t s) l'.safe q (has-imp (is_own a t s) (is_ending t s) f l'.safe h)
            no_end a f q (inr h) = h

            clean : first (is_ending t s) l'.safe ≡ None → some_is (is_own vote_kind t s) l'.safe ≡ false → Clean t s l'
            clean q v = (
              λ h. elim h [ inl a ↦ both_ways _ v (has_some (is_own vote_kind t s) l'.safe a) | inr a ↦ a ],
              no_end kept_kind (λ r e. or_left _ _ e) q,
              no_end undone_kind (λ r e. or_right (is_own kept_kind t s r) _ e) q,
            )

            go : (e : Option Rec) (v : Bool) → first (is_ending t s) l'.safe ≡ e → some_is (is_own vote_kind t s) l'.safe ≡ v
                → PartGood D R t s x l (part (ended_by e (cond v InDoubt Unknown)) l') []
            go (Some r) v q q' =
                let f = first_some (is_ending t s) l'.safe r q in
                elim (ends r (cond v InDoubt Unknown) f.0) [
                  | inl h ↦ subst (λ (y : PartState). PartGood D R t s x l (part y l') []) (sym h.1)
                      (wakes Kept (f.1 (is_own kept_kind t s) h.0) (λ w. absurd (w.0.1 (back kept_kind (f.1 (is_own kept_kind t s) h.0)))))
                  | inr h ↦ subst (λ (y : PartState). PartGood D R t s x l (part y l') []) (sym h.1)
                      (wakes Undone (inl (f.1 (is_own undone_kind t s) h.0)) (λ w. absurd (w.0.2 (back undone_kind (f.1 (is_own undone_kind t s) h.0)))))
                ]
            go None true q q' =
                let h = some-has (is_own vote_kind t s) l'.safe q' in
                wakes InDoubt h (λ w. absurd (w.0.0 (back vote_kind h)))
            go None false q q' = wakes Unknown (clean q q') (λ w. (clean q q', inr refl))
