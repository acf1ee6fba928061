use Rattle.std.proofs.Common.{◌≡◌, ◌≤◌, ◌-◌, take, drop, filter_map}
use Rattle.muf_frame.specs.inner.Shown.{flat}
use Rattle.spec_prims.specs.Talk.{item_object}
use Rattle.prim_talk.proofs.items.excluded.Given as goal

-- those that were looked at so far
abbrev pub invariant-loop-at : goal.invariant-loop-at
invariant-loop-at l = (l.at ≤ l.fn.count) × (l.objects.items ≡ filter_map item_object (take l.at (drop 2 (flat l.fn.frame).stack)))

abbrev pub decreases-loop-at : goal.decreases-loop-at
decreases-loop-at l = l.fn.count - l.at
