use Rattle.std.proofs.Common.{◌≡◌, ◌≤◌, length, map, drop, reverse}
use Rattle.muf_model.specs.inner.View.{view}
use Rattle.muf_debug.proofs.view.stack_of.Given as goal

abbrev pub invariant-loop-depth : goal.invariant-loop-depth
invariant-loop-depth l =
    (l.depth ≤ length l.fn.frame.stack) × (map view l.items.items ≡ reverse (drop l.depth (map view l.fn.frame.stack)))

abbrev pub decreases-loop-depth : goal.decreases-loop-depth
decreases-loop-depth l = l.depth
