use Rattle.std.proofs.Common.{subst}
use Rattle.std.proofs.lemmas.List.{take_all}
use Rattle.rehearsals.proofs.PlayFacts.{agrees, plays-sound, halts-sound, went-on, halted}
use Rattle.rehearsals.specs.Plays.{Step, scene_of}
use Rattle.lines.specs.Lines.{Chain}
use Rattle.rehearsals.proofs.rehearsal.Rehearsal.play.Goals as goal

pub returns-then-is_err-clause-played : goal.returns-then-is_err-clause-played
returns-then-is_err-clause-played g c =
    halted g.C.Log g.P.Log g.N.Line c.args.self.now c.loop-number.self c.play_one.new.self c.args.moves.now c.loop-number.number c.index-moves-number.result c.play_one.result c.is_err.result c.is_err.ensures.value c.if-is_err.true c.loop-number-test.true c.loop-number.invariant c.play_one.ensures

pub returns-then-is_err-clause-agreement : goal.returns-then-is_err-clause-agreement
returns-then-is_err-clause-agreement g c r =
    let h = halted g.C.Log g.P.Log g.N.Line c.args.self.now c.loop-number.self c.play_one.new.self c.args.moves.now c.loop-number.number c.index-moves-number.result c.play_one.result c.is_err.result c.is_err.ensures.value c.if-is_err.true c.loop-number-test.true c.loop-number.invariant c.play_one.ensures in
    let x = halts-sound g.C.Log g.P.Log g.N.Line c.args.self.now c.play_one.new.self c.args.moves.now c.loop-number.number h r in
    (x, agrees c.args.self.now.desk.transaction (scene_of g.C.Log g.P.Log g.N.Line c.play_one.new.self) x)

pub loop-number-preserved : goal.loop-number-preserved
loop-number-preserved g c =
    went-on g.C.Log g.P.Log g.N.Line c.args.self.now c.loop-number.self c.play_one.new.self c.args.moves.now c.loop-number.number c.index-moves-number.result c.play_one.result c.is_err.result c.is_err.ensures.value c.if-is_err.false c.loop-number-test.true c.index-moves-number.is c.loop-number.invariant c.play_one.ensures

pub returns-clause-agreement : goal.returns-clause-agreement
returns-clause-agreement g c r =
    let d = c.args.self.now in
    let e = take_all c.loop-number.number c.args.moves.now c.loop-number-test.false in
    let h = subst (λ ms. Chain (Step g.C.Log g.P.Log g.N.Line) d ms c.loop-number.self) e c.loop-number.invariant in
    let x = plays-sound g.C.Log g.P.Log g.N.Line d c.loop-number.self c.args.moves.now h r in
    (x, agrees d.desk.transaction (scene_of g.C.Log g.P.Log g.N.Line c.loop-number.self) x)
