use Rattle.std.proofs.Common.{rules, refl}
use Rattle.turn_lock.proofs.Moves.{begins}
use Rattle.turn_lock.proofs.turn.Turn.new.Goals as goal

pub new-requires : goal.new-requires
new-requires g c = begins g.T.Story.history g.T.Story.party g.T.Story.start g.T.Story.allowed c.args.start _ _ (search rules) c.requires refl (search rules) refl refl refl refl refl
