use Rattle.std.proofs.Common.{ℕ, ◌<◌, ◌≤◌, ◌-◌}
use Rattle.muck_db.specs.inner.Blocks.{LacksAt}
use Rattle.muck_db.proofs.slots.Slots.next_flagged.Given as goal

abbrev pub invariant-loop-k : goal.invariant-loop-k
invariant-loop-k l = record {
  later : l.from ≤ l.k;
  lacks : (i : ℕ) → l.from ≤ i → i < l.k → LacksAt l.flag l.self.items i;
}

abbrev pub decreases-loop-k : goal.decreases-loop-k
decreases-loop-k l = 100016 - l.k
