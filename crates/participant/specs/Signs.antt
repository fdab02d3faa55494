-- What a record says of a participant.
use Rattle.std.specs.Prelude.{ℕ, cond, Some, None, Option}
use Rattle.agreement.specs.Logs.{is_own, vote_kind, kept_kind, undone_kind}
use Rattle.participant.specs.declared.restarting.Sign.{Sign}
use Rattle.participant.specs.declared.restarting.Sign.TheVariants.{Vote, Kept, Undone}
use Rattle.records.specs.Recs.{Rec}

-- to the participant of transaction t at seat s, or none
abbrev pub sign_of : ℕ → ℕ → Rec → Option Sign
sign_of t s r = cond (is_own kept_kind t s r) (Some Kept) (cond (is_own undone_kind t s r) (Some Undone) (cond (is_own vote_kind t s r) (Some Vote) None))
