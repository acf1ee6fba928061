use Rattle.std.proofs.Common.{◌≡◌, ◌≤◌, ◌+◌, ◌-◌, drop}
use Rattle.std.specs.List.{position_or_len}
use Rattle.muf_model.specs.StackRows.{is_mark, above_locked}
use Rattle.muf_frame.specs.inner.Shown.{flat, locked_by}
use Rattle.prim_stack.proofs.marks.nearest_mark.Given as goal

abbrev pub invariant-loop-at : goal.invariant-loop-at
invariant-loop-at l =
    (l.at ≤ l.depth)
    × (position_or_len is_mark (above_locked (locked_by (flat l.fn.frame).marks) (flat l.fn.frame).stack) ≡ l.at + position_or_len is_mark (drop l.at (above_locked (locked_by (flat l.fn.frame).marks) (flat l.fn.frame).stack)))

abbrev pub decreases-loop-at : goal.decreases-loop-at
decreases-loop-at l = l.depth - l.at
