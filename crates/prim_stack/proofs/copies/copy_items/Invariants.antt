use Rattle.std.proofs.Common.{◌≡◌, ◌≤◌, ◌+◌, ◌-◌, ◌++◌, length, take, drop}
use Rattle.muf_frame.specs.inner.Shown.{flat}
use Rattle.prim_stack.proofs.copies.copy_items.Given as goal

abbrev pub invariant-loop-at : goal.invariant-loop-at
invariant-loop-at l =
    (l.at ≤ l.fn.n)
    × (flat l.frame ≡ record (flat l.fn.frame) { stack = drop (l.fn.n - l.at) (take l.fn.n (flat l.fn.frame).stack) ++ (flat l.fn.frame).stack })
    × (length l.frame.stack ≡ length l.fn.frame.stack + l.at)

abbrev pub decreases-loop-at : goal.decreases-loop-at
decreases-loop-at l = l.fn.n - l.at
