-- Two runs, computed: transaction 7 with one durable participant at seat 0; one commits, in the other the participant votes against.
use Rattle.std.proofs.Common.{List, [], ◌∷◌, refl, inl, inr}
use Rattle.lines.specs.Lines.{Within}
use Rattle.words.specs.Notes.{Note}
use Rattle.agreement.specs.Logs.{LogState}
use Rattle.agreement.specs.Names.{Prepare, Commit, Prepared, Aborted, Durable, Committing, Rolled, Kept, Undone, ToldCommitted, ToldAborted, VotePrepared, VoteAborted}
use Rattle.agreement.specs.Statement.{SomeRun}
use Rattle.agreement.specs.Turns.{note}
use Rattle.agreement.specs.World.{World, Move, registers, asks_commit, asks_outcome, coordinator, joins, votes, participant, posts, takes, settles, receives, made, Possible, was_given, at_first, Reached, opening, moving}

abbrev after : List Move → World → World
after [] w = w
after (m ∷ ms) w = after ms (made 7 m w)

abbrev AllPossible : List Move → World → Type 0
AllPossible [] w = Unit {0}
AllPossible (m ∷ ms) w = Possible 7 m w × AllPossible ms (made 7 m w)

reach : (ms : List Move) (w : World) → Reached 7 w → AllPossible ms w → Reached 7 (after ms w)
reach [] w r p = r
reach (m ∷ ms) w r p = reach ms (made 7 m w) (moving w m r p.0) p.1

abbrev empty : LogState
empty = record { safe = []; loose = []; capacity = 9 }

start : Reached 7 (at_first empty [])
start = opening empty [] (λ h. elim h [ inl a ↦ a | inr a ↦ a ]) (λ n h e. h)

-- post and take what was given
abbrev carries : Note → List Move → List Move
carries n ms = posts n (n ∷ []) ∷ (takes n [] ∷ ms)

abbrev committing : List Move
committing =
    registers 16 Durable ∷ (joins 0 empty ∷ (asks_commit 16 7 ∷
    carries (note 7 0 Prepare) (participant 0 (receives 1 (note 7 0 Prepare)) ∷ (votes 0 1 VotePrepared ∷ (participant 0 (settles 1) ∷
    carries (note 7 0 Prepared) (coordinator (receives 16 (note 7 0 Prepared)) ∷ (coordinator (settles 16) ∷ (coordinator (settles 16) ∷
    carries (note 7 0 Commit) (participant 0 (receives 1 (note 7 0 Commit)) ∷ (participant 0 (settles 1) ∷ (asks_outcome ∷ [])))))))))))

abbrev aborting : List Move
aborting =
    registers 16 Durable ∷ (joins 0 empty ∷ (asks_commit 16 7 ∷
    carries (note 7 0 Prepare) (participant 0 (receives 1 (note 7 0 Prepare)) ∷ (votes 0 1 VoteAborted ∷
    carries (note 7 0 Aborted) (coordinator (receives 16 (note 7 0 Aborted)) ∷ (asks_outcome ∷ []))))))

pub commits : SomeRun Committing Kept ToldCommitted
unfolding Within
commits = (
  7,
  after committing (at_first empty []),
  reach committing (at_first empty []) start (
    tt,
    (
      (λ h. elim h [ inl a ↦ a | inr a ↦ a ]),
      (
        tt,
        (
          (was_given (inl refl), λ m h. h),
          (
            (inl refl, λ m h. absurd h),
            (
              inl refl,
              (
                tt,
                (
                  tt,
                  (
                    (was_given (inr (inl refl)), λ m h. h),
                    (
                      (inl refl, λ m h. absurd h),
                      (
                        inl refl,
                        (
                          tt,
                          (
                            tt,
                            ((was_given (inr (inr (inl refl))), λ m h. h), ((inl refl, λ m h. absurd h), (inl refl, (tt, (tt, tt))))),
                          ),
                        ),
                      ),
                    ),
                  ),
                ),
              ),
            ),
          ),
        ),
      ),
    ),
  ),
  refl,
  (_, refl, refl),
  inl refl,
)

pub aborts : SomeRun Rolled Undone ToldAborted
unfolding Within
aborts = (
  7,
  after aborting (at_first empty []),
  reach aborting (at_first empty []) start (
    tt,
    (
      (λ h. elim h [ inl a ↦ a | inr a ↦ a ]),
      (
        tt,
        (
          (was_given (inl refl), λ m h. h),
          (
            (inl refl, λ m h. absurd h),
            (
              inl refl,
              (
                tt,
                ((was_given (inr (inl refl)), λ m h. h), ((inl refl, λ m h. absurd h), (inl refl, (tt, tt)))),
              ),
            ),
          ),
        ),
      ),
    ),
  ),
  refl,
  (_, refl, refl),
  inl refl,
)
