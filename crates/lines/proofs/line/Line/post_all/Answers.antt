use Rattle.std.proofs.Common.{◌+◌, take, sym, subst}
use Rattle.lines.specs.Lines.{notes_in}
use Rattle.lines.proofs.MemberFacts.{Run, run_none, run_more, run-skip}
use Rattle.lines.proofs.line.Line.post_all.Goals as goal
use Rattle.lines.proofs.line.Line.post_all.Goals.{in-Ok, in_default}

pub loop-row-init : goal.loop-row-init
loop-row-init g c = run_none g.Self.Line.waiting g.Self.Line.posts g.Self.Line.step c.args.self.now

pub loop-row-preserved : goal.loop-row-preserved
loop-row-preserved g c =
    let W = g.Self.Line.waiting in
    let P = g.Self.Line.posts in
    let R = g.Self.Line.step in
    let s = c.args.self.now in
    let rows = c.args.rows.now in
    let i = c.loop-row.row-index in
    elim c.match-try_from.branch [
      | in-Ok w ↦
          subst (λ (x : g.row.Self.Denot). Run W P R s (notes_in (take (i + 1) rows)) x) (sym w.self-is)
          (run_more W P R s c.loop-row.self w.post.new.self rows i _ _ c.loop-row-test.true w.in-Ok.ensures.note c.loop-row.invariant w.post.ensures.waits w.post.ensures.counted w.post.ensures.stepped)
      | in_default w ↦
          subst (λ (x : g.row.Self.Denot). Run W P R s (notes_in (take (i + 1) rows)) x) (sym w.self-is)
          (run-skip W P R s c.loop-row.self rows i _ c.loop-row-test.true w.in_default.ensures.note c.loop-row.invariant)
    ]
