use Rattle.std.proofs.Common.{◌≡◌, ◌≤◌, ◌-◌, length, take}
use Rattle.muf_running.proofs.entered.copy_entered.Given as goal

abbrev pub invariant-loop-at : goal.invariant-loop-at
invariant-loop-at l = (l.at ≤ length l.fn.programs) × (l.copies.items ≡ take l.at l.fn.programs)

abbrev pub decreases-loop-at : goal.decreases-loop-at
decreases-loop-at l = length l.fn.programs - l.at
