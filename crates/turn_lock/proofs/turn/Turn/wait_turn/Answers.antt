use Rattle.std.proofs.Common.{rules}
use Rattle.turn_lock.proofs.Moves.{looks}
use Rattle.turn_lock.proofs.turn.Turn.wait_turn.Goals as goal

pub load-requires : goal.load-requires
load-requires g c = (search rules, search rules, looks g.T.Story.history g.T.Story.party g.T.Story.start g.T.Story.allowed _ _ _ c.args.ticket c.loop.invariant.3 c.loop.invariant.4)
