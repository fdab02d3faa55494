use Rattle.std.proofs.Common.{rules}
use Rattle.boards.proofs.BoardFacts.{board-posted}
use Rattle.boards.proofs.board.carrying.BoardLine.post.Goals as goal

pub returns-clause-waits : goal.returns-clause-waits
returns-clause-waits c = search (rules, board-posted)
