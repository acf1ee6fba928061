use Rattle.muck_perm.specs.inner.Guards.{world_of}
use Rattle.cmd_play.proofs.Moves.{carried_at_hand}
use Rattle.cmd_play.proofs.taking.drop_carried.Goals as goal

pub put-requires : goal.put-requires
put-requires c = carried_at_hand (world_of c.args.guard.now) c.args.guard.now.actor c.args.x c.requires
