use Rattle.std.proofs.Common.{◌≡◌, ◌-◌, length}
use Rattle.muck_db.specs.inner.Dumps.{saving_after}
use Rattle.muck_db.specs.inner.Slots.{with_saving}
use Rattle.muck_db.proofs.Writes.{Passed}
use Rattle.muck_db.proofs.marking.pass.Given as goal

abbrev pub invariant-loop-k : goal.invariant-loop-k
invariant-loop-k l = Passed (with_saving (saving_after l.moment)) l.k l.fn.slots.items l.slots.items

abbrev pub decreases-loop-k : goal.decreases-loop-k
decreases-loop-k l = l.n - l.k
