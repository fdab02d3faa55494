-- The words of the parties, under names that do not clash.
use Rattle.std.specs.Prelude.{Option}
pub use Rattle.agreement.specs.declared.coordinator.State.{State}
pub use Rattle.agreement.specs.declared.coordinator.State.TheVariants.{Active, VolatileVoting, DurableVoting, Ready, Noted, Committing, Done, Rolled}
pub use Rattle.agreement.specs.declared.coordinator.Durability.{Durability}
pub use Rattle.agreement.specs.declared.coordinator.Durability.TheVariants.{Volatile, Durable}
pub use Rattle.agreement.specs.declared.coordinator.Standing.{Standing}
pub use Rattle.agreement.specs.declared.coordinator.Standing.TheVariants.{Idle, Asked, Voted, Gone, Heard}
pub use Rattle.std.specs.Prelude.{None as Vacant, Some as Seated}
pub use Rattle.agreement.specs.declared.coordinator.Outcome.{Outcome}
pub use Rattle.agreement.specs.declared.coordinator.Outcome.TheVariants.{Open, Committed as ToldCommitted, Aborted as ToldAborted}
pub use Rattle.agreement.specs.declared.participant.State.{State as PartState}
pub use Rattle.agreement.specs.declared.participant.State.TheVariants.{Working, Voting, Noted as VoteNoted, InDoubt, Keeping, Undoing, Kept, Undone, Viewed, Unknown}
pub use Rattle.agreement.specs.declared.participant.Ballot.{Ballot}
pub use Rattle.agreement.specs.declared.participant.Ballot.TheVariants.{Prepared as VotePrepared, ReadOnly as VoteReadOnly, Aborted as VoteAborted}
pub use Rattle.words.specs.declared.kind.Kind.{Kind}
pub use Rattle.words.specs.declared.kind.Kind.TheVariants.{Prepare, Commit, Rollback, Prepared, ReadOnly, Aborted, Committed}

-- a place of the coordinator's table: vacant, or whose participant and how it stands
abbrev pub Place : Type 0
Place = Option (Durability × Standing)
