use Rattle.std.proofs.Common.{◌≤◌, ◌-◌, length, map}
use Rattle.muf_model.specs.inner.View.{pair_view}
use Rattle.muf_model.specs.Entries.{entry_place}
use Rattle.muf_model.proofs.dicts.entry_place.Given as goal

abbrev pub invariant-loop-low : goal.invariant-loop-low
invariant-loop-low l =
    (l.high ≤ length l.fn.pairs)
    × (l.low ≤ entry_place l.fn.key (map pair_view l.fn.pairs))
    × (entry_place l.fn.key (map pair_view l.fn.pairs) ≤ l.high)

abbrev pub decreases-loop-low : goal.decreases-loop-low
decreases-loop-low l = l.high - l.low
