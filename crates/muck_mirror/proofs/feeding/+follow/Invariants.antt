use Rattle.std.specs.Prelude.{length}
use Rattle.muck_mirror.proofs.feeding.+follow.Given as goal

abbrev pub decreases-follow : goal.decreases-follow
decreases-follow l = length l.kept.now
