use Rattle.std.proofs.Common.{◌≡◌, ◌≤◌, ◌-◌, length, map, take}
use Rattle.muf_model.specs.inner.View.{view}
use Rattle.muf_model.proofs.lists.copy_values.Given as goal

abbrev pub invariant-loop-at : goal.invariant-loop-at
invariant-loop-at l =
    (l.at ≤ length l.fn.values)
    × (map view l.copies.items ≡ map view (take l.at l.fn.values))

abbrev pub decreases-loop-at : goal.decreases-loop-at
decreases-loop-at l = length l.fn.values - l.at
