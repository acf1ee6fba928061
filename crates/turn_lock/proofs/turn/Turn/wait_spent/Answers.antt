use Rattle.std.proofs.Common.{rules}
use Rattle.turn_lock.proofs.Moves.{looks_on}
use Rattle.turn_lock.proofs.turn.Turn.wait_spent.Goals as goal

pub load-requires : goal.load-requires
load-requires g c = (search rules, search rules, looks_on g.T.Story.history g.T.Story.party g.T.Story.start g.T.Story.allowed _ _ _ c.loop.invariant.3)
