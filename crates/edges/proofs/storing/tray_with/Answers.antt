use Rattle.std.proofs.Common.{rules, ◌≡◌, List, [], replicate, ◌∙◌, ap, arith}
use Rattle.logs.specs.Adding.{loose_after}
use Rattle.logs.specs.Trays.{loose_in}
use Rattle.records.specs.Recs.{Rec, model_of}
use Rattle.edges.proofs.Filling.{once_more}
use Rattle.edges.specs.Votes.{filler}
use Rattle.edges.proofs.storing.tray_with.Goals as goal

pub loop-preserved : goal.loop-preserved
loop-preserved c =
    let made : model_of c.new-filler.result ≡ filler = search rules in
    let n = c.loop.counter in (
      c.add.ensures.safe ∙ c.loop.invariant.0,
      c.add.ensures.loose
          ∙ ap (λ (s : List Rec). loose_after 32 s (loose_in c.loop.log) (model_of c.new-filler.result)) c.loop.invariant.0
          ∙ ap (λ (l : List Rec). loose_after 32 [] l (model_of c.new-filler.result)) c.loop.invariant.1
          ∙ ap (λ (r : Rec). loose_after 32 [] (replicate n filler) r) made
          ∙ once_more filler n (omega arith),
    )
