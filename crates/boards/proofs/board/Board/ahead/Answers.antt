use Rattle.std.proofs.Common.{rules, tests, drop, take, sym, ◌∙◌}
use Rattle.std.proofs.lemmas.Iterator.{YieldsList-from_slice}
use Rattle.std.proofs.lemmas.Iterator.Search.{position_from_yields_List}
use Rattle.lines.specs.Ring.{turned}
use Rattle.boards.specs.Boards.{filled}
use Rattle.boards.proofs.BoardFacts.{found-front, found-back, found-nowhere}
use Rattle.boards.proofs.board.Board.ahead.Goals as goal

pub returns-in-Some : goal.returns-in-Some
unfolding turned
returns-in-Some c =
    let b = c.args.self.now in
    found-front filled (drop b.next b.cells) (take b.next b.cells) c.in-Some.ahead
    (sym c.in-Some.is ∙ position_from_yields_List filled _ _ _ c.position.ensures.ran (YieldsList-from_slice (drop b.next b.cells) (cc)) (λ x r q k. search (rules, tests)))

pub returns-in_err-ahead-in-None : goal.returns-in_err-ahead-in-None
unfolding turned
returns-in_err-ahead-in-None c =
    let b = c.args.self.now in
    rw c.from_residual.ensures (found-nowhere filled (drop b.next b.cells) (take b.next b.cells)
    (sym c.in-None.is ∙ position_from_yields_List filled _ _ _ c.position.ensures.ran (YieldsList-from_slice (drop b.next b.cells) (cc)) (λ x r q k. search (rules, tests)))
    (sym c.in_err-ahead-in-None.was ∙ position_from_yields_List filled _ _ _ c.position-in-None.ensures.ran (YieldsList-from_slice (take b.next b.cells) (cc)) (λ x r q k. search (rules, tests))))

pub returns-in_ok-ahead-in-None : goal.returns-in_ok-ahead-in-None
unfolding turned
returns-in_ok-ahead-in-None c =
    let b = c.args.self.now in
    rw c.split_at.ensures.back (found-back filled (drop b.next b.cells) (take b.next b.cells) c.in_ok-ahead-in-None.ahead
    (sym c.in-None.is ∙ position_from_yields_List filled _ _ _ c.position.ensures.ran (YieldsList-from_slice (drop b.next b.cells) (cc)) (λ x r q k. search (rules, tests)))
    (sym c.in_ok-ahead-in-None.was ∙ position_from_yields_List filled _ _ _ c.position-in-None.ensures.ran (YieldsList-from_slice (take b.next b.cells) (cc)) (λ x r q k. search (rules, tests))))
