use Rattle.std.proofs.Common.{◌≡◌, drop}
use Rattle.muck_store.specs.Whole.{all_tied}
use Rattle.muck_store.proofs.tied.all_tied.Given as goal

abbrev pub invariant-loop-k : goal.invariant-loop-k
invariant-loop-k l = all_tied l.records 0 l.records ≡ all_tied l.records l.k (drop l.k l.records)
