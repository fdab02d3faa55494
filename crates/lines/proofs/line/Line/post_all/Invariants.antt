use Rattle.std.proofs.Common.{take}
use Rattle.lines.specs.Lines.{notes_in}
use Rattle.lines.proofs.MemberFacts.{Run}
use Rattle.lines.proofs.line.Line.post_all.Given as goal

abbrev pub invariant-loop-row : goal.invariant-loop-row
invariant-loop-row g l = Run g.Self.Line.waiting g.Self.Line.posts g.Self.Line.step l.initial.self (notes_in (take l.row-index l.rows)) l.self
