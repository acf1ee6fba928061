use Rattle.std.proofs.Common.{◌≡◌, ◌-◌, length}
use Rattle.muck_store.specs.Whole.{list_met}
use Rattle.muck_store.proofs.Walking.{rest_met}
use Rattle.muck_store.proofs.tree.list_met.Given as goal

abbrev pub invariant-loop-at : goal.invariant-loop-at
invariant-loop-at l = record {
  size : length l.met.marks.items ≡ length l.records;
  same : list_met l.records l.exits l.p l.fn.met.numbers.items ≡ rest_met l.records l.exits l.p (length l.fn.met.numbers.items) l.at l.met.numbers.items;
}

abbrev pub decreases-loop-at : goal.decreases-loop-at
decreases-loop-at l = length l.records - length l.met.numbers.items
