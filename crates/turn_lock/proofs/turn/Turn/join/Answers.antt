use Rattle.std.proofs.Common.{rules}
use Rattle.turn_lock.proofs.Moves.{joins_at}
use Rattle.turn_lock.proofs.turn.Turn.join.Goals as goal

pub join_seat-requires : goal.join_seat-requires
join_seat-requires g c = (search rules, search rules, search rules, search rules, joins_at g.T.Story.history g.T.Story.party g.T.Story.start g.T.Story.allowed _ _ _ _ c.requires.own.1 c.requires.own.2 c.requires.done)
