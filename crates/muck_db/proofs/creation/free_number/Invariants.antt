use Rattle.std.proofs.Common.{ℕ, ◌≡◌, ◌<◌, ◌-◌, false, length}
use Rattle.spec_live.specs.Objects.{is_garbage}
use Rattle.muck_db.specs.inner.Slots.{kind_at}
use Rattle.muck_db.proofs.creation.free_number.Given as goal

abbrev pub invariant-loop-k : goal.invariant-loop-k
invariant-loop-k l = (j : ℕ) → j < l.k → j < length l.slots.items → is_garbage (kind_at l.slots.items j) ≡ false

abbrev pub decreases-loop-k : goal.decreases-loop-k
decreases-loop-k l = l.n - l.k
