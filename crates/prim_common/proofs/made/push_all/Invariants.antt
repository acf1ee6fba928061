use Rattle.std.proofs.Common.{◌≡◌, ◌≤◌, ◌+◌, ◌++◌, length}
use Rattle.prim_common.proofs.made.push_all.Given as goal

abbrev pub invariant-loop-item : goal.invariant-loop-item
invariant-loop-item l =
    (l.frame ≡ record l.fn.frame { stack = l.frame.stack })
    × (l.left.items ++ l.frame.stack ≡ l.fn.items.items ++ l.fn.frame.stack)
    × (length l.left.items + length l.frame.stack ≤ 1024)

abbrev pub decreases-loop-item : goal.decreases-loop-item
decreases-loop-item l = length l.left.items
