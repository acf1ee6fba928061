use Rattle.std.specs.Prelude.{◌≡◌, length}
use Rattle.muck_mirror.specs.inner.Undoing.{put_back}
use Rattle.muck_mirror.proofs.world.put_back.Given as goal

abbrev pub invariant-loop-one : goal.invariant-loop-one
invariant-loop-one l = put_back l.left.items l.objects.items ≡ put_back l.fn.replaced.items l.initial.objects.items

abbrev pub decreases-loop-one : goal.decreases-loop-one
decreases-loop-one l = length l.left.items
