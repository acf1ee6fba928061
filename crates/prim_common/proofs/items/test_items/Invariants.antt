use Rattle.std.proofs.Common.{◌≡◌, ◌≤◌, ◌+◌, ◌-◌, length, drop}
use Rattle.muf_frame.specs.inner.Shown.{flat}
use Rattle.muf_model.specs.Ladder.{first_refusal}
use Rattle.muck_perm.specs.inner.Guards.{objects_of}
use Rattle.prim_common.specs.inner.Tests.{item_fault}
use Rattle.prim_common.proofs.items.test_items.Given as goal

-- what was looked at so far passes
abbrev pub invariant-loop-at : goal.invariant-loop-at
invariant-loop-at l =
    (l.at ≤ length l.fn.needs)
    × (first_refusal (item_fault l.fn.asked l.fn.guard.actor (objects_of l.fn.guard)) l.fn.needs (drop l.fn.from (flat l.fn.frame).stack) ≡ first_refusal (item_fault l.fn.asked l.fn.guard.actor (objects_of l.fn.guard)) (drop l.at l.fn.needs) (drop (l.at + l.fn.from) (flat l.fn.frame).stack))

abbrev pub decreases-loop-at : goal.decreases-loop-at
decreases-loop-at l = length l.fn.needs - l.at
