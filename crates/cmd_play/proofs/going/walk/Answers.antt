use Rattle.cmd_play.proofs.Licences.{walk_licensed}
use Rattle.cmd_play.proofs.going.walk.Goals as goal

pub returns-clause-licensed : goal.returns-clause-licensed
returns-clause-licensed c = walk_licensed _ _ _ c.args.guard.now c.take_exit.new.guard _ c.take_exit.ensures
