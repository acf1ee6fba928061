use Rattle.std.proofs.Common.{◌≡◌, ◌≤◌, length, map, take, drop, reverse}
use Rattle.muf_model.specs.inner.View.{view}
use Rattle.muf_frame.specs.inner.Shown.{flat}
use Rattle.muf_array.proofs.making.copies.Given as goal

abbrev pub invariant-loop-at : goal.invariant-loop-at
invariant-loop-at l =
    (l.at ≤ l.fn.n)
    × (map view l.items.items ≡ reverse (drop l.at (take l.fn.n (drop 1 (flat l.fn.frame).stack))))

abbrev pub decreases-loop-at : goal.decreases-loop-at
decreases-loop-at l = l.at
