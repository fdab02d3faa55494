use Rattle.std.proofs.Common.{arith}
use Rattle.std.proofs.lemmas.Grind.{common_steps}
use Rattle.words.proofs.NoteFacts.{reads, read-both, read-no-seat, read-no-kind}
use Rattle.words.proofs.row.NotificationTryFromRow.try_from.Goals as goal

pub returns-in_err-seat : goal.returns-in_err-seat
returns-in_err-seat c = reads _ _ (grind (arith, common_steps, read-no-seat))

pub returns-in_default : goal.returns-in_default
returns-in_default c = reads _ _ (grind (arith, common_steps, read-no-kind))

pub returns : goal.returns
returns c = reads _ _ (read-both _ c.in_ok-seat.seat _ (grind (arith, common_steps)) c.in-Ok.ensures)
