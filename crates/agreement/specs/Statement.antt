-- Agreement: what stands in every world that is reached.
use Rattle.std.specs.Prelude.{◌≡◌, ℕ, ◌⊎◌, List, [], ◌∷◌, ◌≢◌}
use Rattle.lines.specs.Lines.{In}
use Rattle.words.specs.Notes.{Note}
use Rattle.agreement.specs.Logs.{InLog, Has, is_decision, is_own, vote_kind}
use Rattle.agreement.specs.Names.{Kind, Commit, Prepared, ReadOnly}
use Rattle.agreement.specs.Names.{State, Active, VolatileVoting, DurableVoting, Ready, Noted, Committing, Done, Rolled}
use Rattle.agreement.specs.Names.{PartState, Working, Voting, VoteNoted, InDoubt, Keeping, Undoing, Kept, Undone, Viewed, Unknown}
use Rattle.agreement.specs.Names.{Outcome, Open}
use Rattle.agreement.specs.ParticipantRules.{Part}
use Rattle.agreement.specs.World.{World, nobody, joined, seat_in, Reached}

-- ── (a) ──

-- how a party stands: its end is open, or it is one of the two
pub data End : Type 0 where
  open_ended : End
  committed : End
  rolled_back : End

abbrev pub coord_end : State → End
coord_end Active = open_ended
coord_end VolatileVoting = open_ended
coord_end DurableVoting = open_ended
coord_end Ready = open_ended
coord_end Noted = open_ended
coord_end Committing = committed
coord_end Done = committed
coord_end Rolled = rolled_back

abbrev pub part_end : PartState → End
part_end Working = open_ended
part_end Voting = open_ended
part_end VoteNoted = open_ended
part_end InDoubt = open_ended
part_end Keeping = open_ended
part_end Undoing = open_ended
part_end Kept = committed
part_end Undone = rolled_back
part_end Viewed = open_ended
part_end Unknown = open_ended

-- p is the durable participant at seat s
abbrev pub DurableAt : World → ℕ → Part → Type 0
DurableAt w s p = seat_in w.office s ≡ joined p

-- the coordinator stands so, or one of its durable participants does
abbrev pub Ends : World → End → Type 0
Ends w e = (coord_end w.office.coord.state ≡ e) ⊎ ((s : ℕ) × (p : Part) × DurableAt w s p × (part_end p.state ≡ e))

abbrev pub NoTwoEndDifferently : World → Type 0
NoTwoEndDifferently w = Ends w committed → Ends w rolled_back → ⊥

-- ── (b) ──

abbrev pub Registered : World → ℕ → Type 0
Registered w s = seat_in w.office s ≡ nobody → ⊥

-- a notification of this transaction, seat and kind is among these, whatever else it carries
abbrev pub Among : ℕ → ℕ → Kind → List Note → Type 0
Among t s k ns = (n : Note) × In n ns × (n.transaction ≡ t) × (n.seat ≡ s) × (n.kind ≡ k)

abbrev pub SentItsVote : ℕ → World → ℕ → Type 0
SentItsVote t w s = Among t s Prepared w.office.mail.posted ⊎ Among t s ReadOnly w.office.mail.posted

-- a decision to commit is in the coordinator's log, safe or loose, only if every registered participant has sent its vote
abbrev pub DecisionBacked : ℕ → World → Type 0
DecisionBacked t w = InLog (is_decision t) w.log → (s : ℕ) → Registered w s → SentItsVote t w s

-- ── (c) ──

-- the newest first: each answer is every earlier one that was not Open
abbrev pub Steady : List Outcome → Type 0
Steady [] = Unit {0}
Steady (o ∷ earlier) = ((p : Outcome) → In p earlier → (p ≢ Open) → o ≡ p) × Steady earlier

abbrev pub AnswersStay : World → Type 0
AnswersStay w = Steady w.told

-- ── the theorem ──

abbrev pub Agreement : Type 0
Agreement = (t : ℕ) (w : World) → Reached t w → NoTwoEndDifferently w × DecisionBacked t w × AnswersStay w

-- ── beside it ──

-- it waits for the outcome, acts on it, or has ended
abbrev pub Bound : PartState → Type 0
Bound Working = ⊥
Bound Voting = ⊥
Bound VoteNoted = ⊥
Bound InDoubt = Unit {0}
Bound Keeping = Unit {0}
Bound Undoing = Unit {0}
Bound Kept = Unit {0}
Bound Undone = Unit {0}
Bound Viewed = ⊥
Bound Unknown = ⊥

-- nothing is promised before it is safe, and no promise is forgotten: once Commit was given, a Decision is safe and the coordinator stands committed;
-- once a durable participant's Prepared was given, its Vote is safe and it is bound by it
abbrev pub PromisesStand : Type 0
PromisesStand =
    (t : ℕ) (w : World) → Reached t w
    → ((s : ℕ) → Among t s Commit w.office.mail.given → Has (is_decision t) w.log.safe × (coord_end w.office.coord.state ≡ committed))
    × ((s : ℕ) (p : Part) → DurableAt w s p → Among t s Prepared w.office.mail.given → Has (is_own vote_kind t s) p.log.safe × Bound p.state)

-- the theorem is not empty: some run comes to a world in which the coordinator and a durable participant end so, and the initiator is told so
abbrev pub SomeRun : State → PartState → Outcome → Type 0
SomeRun x y o =
    (t : ℕ) × (w : World) × Reached t w × (w.office.coord.state ≡ x) × ((p : Part) × DurableAt w 0 p × (p.state ≡ y)) × In o w.told
