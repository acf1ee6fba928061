use Rattle.std.proofs.Common.{ℕ, ◌≡◌, ◌<◌, ◌-◌, None}
use Rattle.muck_db.specs.inner.Slots.{mark_at}
use Rattle.muck_db.proofs.telling.marked.Given as goal

abbrev pub invariant-loop-k : goal.invariant-loop-k
invariant-loop-k l = (j : ℕ) → j < l.k → mark_at l.slots.items j ≡ None

abbrev pub decreases-loop-k : goal.decreases-loop-k
decreases-loop-k l = l.n - l.k
