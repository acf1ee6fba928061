use Rattle.std.proofs.Common.{◌≡◌, ◌≤◌, take, not}
use Rattle.std.specs.List.{count_by}
use Rattle.spec_live.specs.Objects.{is_garbage}
use Rattle.muck_store.proofs.tree.count_there.Given as goal

abbrev pub invariant-loop-stored : goal.invariant-loop-stored
invariant-loop-stored l = record {
  is : l.n ≡ count_by (λ s. not (is_garbage s.kind)) (take l.stored-index l.records);
  most : l.n ≤ l.stored-index;
}
