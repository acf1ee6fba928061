use Rattle.std.proofs.Common.{◌≡◌, ◌≤◌, ◌-◌, ◌++◌, map}
use Rattle.muf_model.specs.inner.View.{view}
use Rattle.muf_model.specs.Source.{zeros}
use Rattle.muf_frame.proofs.words.push_zeros.Given as goal

abbrev pub invariant-loop-at : goal.invariant-loop-at
invariant-loop-at l =
    (l.at ≤ l.fn.count)
    × (map view l.values.items ≡ map view l.fn.values.items ++ zeros l.at)

abbrev pub decreases-loop-at : goal.decreases-loop-at
decreases-loop-at l = l.fn.count - l.at
