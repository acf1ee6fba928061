use Rattle.std.proofs.Common.{◌≡◌, ◌-◌, ◌≤◌}
use Rattle.muck_db.specs.inner.Moves.{rested}
use Rattle.muck_db.proofs.Writes.{Passed}
use Rattle.muck_db.proofs.stood.settle.Given as goal

abbrev pub invariant-loop-k : goal.invariant-loop-k
invariant-loop-k l = Passed rested l.k l.fn.slots.items l.slots.items

abbrev pub decreases-loop-k : goal.decreases-loop-k
decreases-loop-k l = l.end - l.k
