use Rattle.std.proofs.Common.{take}
use Rattle.rehearsals.specs.Plays.{Step}
use Rattle.lines.specs.Lines.{Chain}
use Rattle.rehearsals.proofs.rehearsal.Rehearsal.play.Given as goal

-- the moves before this number were played
abbrev pub invariant-loop-number : goal.invariant-loop-number
invariant-loop-number g l = Chain (Step g.C.Log g.P.Log g.N.Line) l.initial.self (take l.number l.moves) l.self
