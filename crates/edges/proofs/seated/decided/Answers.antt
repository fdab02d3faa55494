use Rattle.std.proofs.Common.{[]}
use Rattle.edges.proofs.Playing.{onward}
use Rattle.edges.specs.Stages.{Stands}
use Rattle.edges.proofs.seated.decided.Goals as goal

pub returns : goal.returns
returns c =
    let opened : Stands [] _ = record { head = c.open-stage.ensures.head } in
    onward (onward (onward (onward opened c.register.ensures) c.ask_commit.ensures) c.hear_vote.ensures) c.settle.ensures
