use Rattle.std.proofs.Common.{◌≡◌, ◌-◌, length}
use Rattle.muck_store.specs.Whole.{all_met}
use Rattle.muck_store.proofs.tree.all_met.Given as goal

abbrev pub invariant-loop-i : goal.invariant-loop-i
invariant-loop-i l = record {
  size : length l.met.marks.items ≡ length l.records;
  same : all_met (length l.records) l.records 0 l.fn.met.numbers.items ≡ all_met (length l.records - l.i) l.records l.i l.met.numbers.items;
}

abbrev pub decreases-loop-i : goal.decreases-loop-i
decreases-loop-i l = length l.records - l.i
