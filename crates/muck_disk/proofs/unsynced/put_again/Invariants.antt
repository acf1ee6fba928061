use Rattle.std.proofs.Common.{◌-◌}
use Rattle.muck_disk.proofs.unsynced.put_again.Given as goal

abbrev pub decreases-loop-at : goal.decreases-loop-at
decreases-loop-at l = l.initial.to - l.at
