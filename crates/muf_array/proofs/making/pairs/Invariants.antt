use Rattle.std.proofs.Common.{◌≡◌, ◌≤◌, ◌-◌, ◌+◌, map, drop}
use Rattle.muf_model.specs.inner.View.{pair_view}
use Rattle.muf_frame.specs.inner.Shown.{flat}
use Rattle.muf_array.specs.inner.Shapes.{pairs_in, pairs_before}
use Rattle.muf_array.proofs.making.pairs.Given as goal

abbrev pub invariant-loop-at : goal.invariant-loop-at
invariant-loop-at l =
    (l.at ≤ l.fn.n)
    × (pairs_in l.fn.n (drop 1 (flat l.fn.frame).stack) ≡ pairs_before (map pair_view l.made.items) (pairs_in (l.fn.n - l.at) (drop (l.at + l.at + 1) (flat l.fn.frame).stack)))

abbrev pub decreases-loop-at : goal.decreases-loop-at
decreases-loop-at l = l.fn.n - l.at
