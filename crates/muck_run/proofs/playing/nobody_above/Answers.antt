use Rattle.muck_run.proofs.Opening.{nobody_above}
use Rattle.muck_run.proofs.playing.nobody_above.Goals as goal

pub returns : goal.returns
returns c = λ d less. nobody_above c.args.most d c.args.world.now c.requires.opened c.is_dead.ensures.lawful less
