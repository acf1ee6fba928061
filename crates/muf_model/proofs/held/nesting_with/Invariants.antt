use Rattle.std.proofs.Common.{◌≡◌, ◌≤◌, ◌-◌, length, map, take, set}
use Rattle.muf_model.specs.Datum.{data_of}
use Rattle.muf_model.specs.Measures.{data_nesting}
use Rattle.muf_model.specs.inner.View.{view}
use Rattle.muf_model.proofs.held.nesting_with.Given as goal

abbrev pub invariant-loop-i : goal.invariant-loop-i
invariant-loop-i g l =
    (l.i ≤ length l.fn.values)
    × (l.deepest ≡ data_nesting (data_of (take l.i (set (map g.H.Held.held l.fn.values) l.fn.at (view l.fn.value)))))

abbrev pub decreases-loop-i : goal.decreases-loop-i
decreases-loop-i g l = length l.fn.values - l.i
