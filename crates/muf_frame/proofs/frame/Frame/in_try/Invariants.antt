use Rattle.std.proofs.Common.{◌≡◌, ◌≤◌, take, length, reverse, map}
use Rattle.muf_frame.specs.inner.Shown.{flat_mark}
use Rattle.muf_frame.specs.inner.Moves.{has_guard}
use Rattle.muf_frame.proofs.frame.Frame.in_try.Given as goal

abbrev pub invariant-loop-at : goal.invariant-loop-at
invariant-loop-at l =
    (l.at ≤ length l.self-inside.marks.items)
    × (has_guard (map flat_mark (reverse (take l.at l.self-inside.marks.items))) ≡ has_guard (map flat_mark (reverse l.self-inside.marks.items)))

abbrev pub decreases-loop-at : goal.decreases-loop-at
decreases-loop-at l = l.at
