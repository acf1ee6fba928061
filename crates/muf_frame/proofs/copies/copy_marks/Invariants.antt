use Rattle.std.proofs.Common.{◌≡◌, ◌≤◌, ◌-◌, length, map, take, vec_len, vec_capacity}
use Rattle.muf_frame.specs.inner.Shown.{flat_mark, outer_of}
use Rattle.muf_frame.proofs.copies.copy_marks.Given as goal

abbrev pub invariant-loop-at : goal.invariant-loop-at
invariant-loop-at l =
    (l.at ≤ length l.fn.marks)
    × (map flat_mark l.copies.items ≡ map flat_mark (take l.at l.fn.marks))
    × (map outer_of l.copies.items ≡ map outer_of (take l.at l.fn.marks))
    × (vec_len l.copies ≡ l.at)
    × (1024 ≤ vec_capacity l.copies)

abbrev pub decreases-loop-at : goal.decreases-loop-at
decreases-loop-at l = length l.fn.marks - l.at
