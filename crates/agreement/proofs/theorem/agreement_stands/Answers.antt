use Rattle.agreement.proofs.Invariant as I
use Rattle.agreement.proofs.Runs as R
use Rattle.agreement.proofs.theorem.agreement_stands.Goals as goal

pub returns : goal.returns
returns c = record { agreement = I.agreement; promises = I.promises-stand; commits = R.commits; aborts = R.aborts }
