use Rattle.std.proofs.Common.{◌≡◌, ◌≤◌, ◌-◌, length, map, take}
use Rattle.muf_model.specs.inner.View.{pair_view}
use Rattle.muf_model.proofs.dicts.copy_pairs.Given as goal

abbrev pub invariant-loop-at : goal.invariant-loop-at
invariant-loop-at l =
    (l.at ≤ length l.fn.pairs)
    × (map pair_view l.copies.items ≡ map pair_view (take l.at l.fn.pairs))

abbrev pub decreases-loop-at : goal.decreases-loop-at
decreases-loop-at l = length l.fn.pairs - l.at
