use Rattle.std.proofs.Common.{◌≤◌, ◌-◌, length, map, take}
use Rattle.muf_model.specs.Datum.{items, data_of}
use Rattle.muf_model.specs.Values.{IsSized}
use Rattle.muf_model.proofs.lists.size_of.Given as goal

abbrev pub invariant-loop-at : goal.invariant-loop-at
invariant-loop-at g l =
    (l.at ≤ length l.fn.values)
    × IsSized (items (data_of (take l.at (map g.H.Held.held l.fn.values)))) l.size

abbrev pub decreases-loop-at : goal.decreases-loop-at
decreases-loop-at g l = length l.fn.values - l.at
