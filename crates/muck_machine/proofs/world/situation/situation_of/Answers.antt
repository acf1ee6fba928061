use Rattle.std.proofs.Common.{refl}
use Rattle.muck_machine.proofs.world.situation.situation_of.Goals as goal

pub returns : goal.returns
returns c = rw (c.is_leaving.ensures, c.is_ready.ensures, c.hears.ensures, c.takes_line.ensures, c.queued.ensures.count) refl
