-- One pass over records that gives the state of a restarted participant.
use Rattle.std.proofs.Common.{ℕ, Bool, cond, ◌||◌, List}
use Rattle.agreement.specs.Logs.{is_own, is_ending, vote_kind, first, some_is}
use Rattle.agreement.specs.ParticipantRules.{ended_by}
use Rattle.agreement.specs.declared.participant.State.{State}
use Rattle.agreement.specs.declared.participant.State.TheVariants as states
use Rattle.records.specs.Recs.{Rec}

-- what the participant of transaction t at seat s finds in the records if a Vote was seen before them, or none was
abbrev pub scanned : ℕ → ℕ → Bool → List Rec → State
scanned t s voted rs = ended_by (first (is_ending t s) rs) (cond (voted || some_is (is_own vote_kind t s) rs) states.InDoubt states.Unknown)
