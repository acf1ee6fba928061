use Rattle.std.proofs.Common.{◌≡◌, ◌≤◌, ◌+◌, length, drop}
use Rattle.muf_frame.specs.inner.Shown.{flat}
use Rattle.muf_model.specs.Ladder.{times, first_refusal}
use Rattle.muck_perm.specs.inner.Guards.{objects_of}
use Rattle.prim_common.specs.inner.Tests.{item_fault}
use Rattle.prim_common.proofs.items.test_counted.Given as goal

-- the rounds so far pass
abbrev pub invariant-loop-left : goal.invariant-loop-left
invariant-loop-left l =
    (length (times l.left l.fn.each) + l.depth ≤ 274877906944)
    × (first_refusal (item_fault l.fn.asked l.fn.guard.actor (objects_of l.fn.guard)) (times l.fn.count l.fn.each) (drop l.fn.from (flat l.fn.frame).stack) ≡ first_refusal (item_fault l.fn.asked l.fn.guard.actor (objects_of l.fn.guard)) (times l.left l.fn.each) (drop l.depth (flat l.fn.frame).stack))

abbrev pub decreases-loop-left : goal.decreases-loop-left
decreases-loop-left l = l.left
