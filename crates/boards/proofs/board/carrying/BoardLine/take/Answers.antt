use Rattle.std.proofs.Common.{refl, rules, arith}
use Rattle.lines.proofs.MemberFacts.{within_same}
use Rattle.boards.proofs.BoardFacts.{waited-turned, board-near, board-found, board-next, board-none, board-still}
use Rattle.boards.proofs.board.carrying.BoardLine.take.Goals as goal

pub returns-in_err-ahead-clause-waits : goal.returns-in_err-ahead-clause-waits
returns-in_err-ahead-clause-waits c = within_same _

pub returns-in_err-ahead-clause-given : goal.returns-in_err-ahead-clause-given
returns-in_err-ahead-clause-given c = record { gave = search (rules, board-none); cells = refl; next = search (rules, board-still); posted = refl }

pub overflow_add-at : goal.overflow_add-at
overflow_add-at c = let b = c.args.self.now in let k = board-near b.cells b.next c.in_ok-ahead.ahead b.long b.within c.in_ok-ahead.ensures in omega arith

pub returns-clause-waited : goal.returns-clause-waited
returns-clause-waited c = waited-turned _ c.args.self.now.cells c.args.self.now.next (search (rules, board-found))

pub returns-clause-waits : goal.returns-clause-waits
returns-clause-waits c = within_same _

pub returns-clause-given : goal.returns-clause-given
returns-clause-given c = record { gave = search (rules, board-found); cells = refl; next = search (rules, board-next); posted = refl }
