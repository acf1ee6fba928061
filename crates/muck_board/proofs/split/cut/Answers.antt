use Rattle.std.proofs.Common.{sym}
use Rattle.std.proofs.lemmas.List.{take_all}
use Rattle.muck_board.proofs.split.cut.Goals as goal

pub returns-then-text-le-TEXT_MOST-clause-front : goal.returns-then-text-le-TEXT_MOST-clause-front
returns-then-text-le-TEXT_MOST-clause-front c = sym (take_all _ _ c.if-text-le-TEXT_MOST.true)
