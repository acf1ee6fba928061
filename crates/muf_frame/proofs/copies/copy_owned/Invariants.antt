use Rattle.std.proofs.Common.{◌≡◌, ◌≤◌, ◌-◌, length, map, take}
use Rattle.muf_frame.specs.inner.Shown.{flat_owned}
use Rattle.muf_frame.proofs.copies.copy_owned.Given as goal

abbrev pub invariant-loop-at : goal.invariant-loop-at
invariant-loop-at l =
    (l.at ≤ length l.fn.owned)
    × (map flat_owned l.copies.items ≡ map flat_owned (take l.at l.fn.owned))

abbrev pub decreases-loop-at : goal.decreases-loop-at
decreases-loop-at l = length l.fn.owned - l.at
