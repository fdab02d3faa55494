use Rattle.rehearsals.proofs.PlayFacts.{opened-agrees}
use Rattle.rehearsals.specs.Plays.{scene_of}
use Rattle.rehearsals.proofs.rehearsal.playing.rehearse.Goals as goal

pub returns-in-Ok-play : goal.returns-in-Ok-play
returns-in-Ok-play g c =
    let r = c.args in
    record {
      first = c.in-Ok.rehearsal;
      opened = c.in-Ok.ensures;
      played = c.in-Ok-play.ensures.played;
      agreement = opened-agrees g.C.Log g.P.Log g.N.Line r.transaction r.log r.line r.logs.items c.in-Ok.rehearsal (scene_of g.C.Log g.P.Log g.N.Line c.play.new.self) c.in-Ok.ensures c.in-Ok-play.ensures.agreement;
    }

pub returns-in-Err-play : goal.returns-in-Err-play
returns-in-Err-play g c =
    let r = c.args in
    (c.in-Ok.rehearsal, c.in-Ok.ensures, c.in-Err-play.ensures.played, opened-agrees g.C.Log g.P.Log g.N.Line r.transaction r.log r.line r.logs.items c.in-Ok.rehearsal (scene_of g.C.Log g.P.Log g.N.Line c.play.new.self) c.in-Ok.ensures c.in-Err-play.ensures.agreement)
