use Rattle.std.proofs.Common.{arith}
use Rattle.muck_laws.proofs.Places.{mapped_there}
use Rattle.muck_queue.proofs.processes.clear_trigger.Goals as goal

pub loop-i-preserved : goal.loop-i-preserved
loop-i-preserved c = mapped_there _ _ _ _ _ _ (omega arith) c.loop-i.invariant c.index_mut-p.ensures.value c.clear_trigger.ensures
