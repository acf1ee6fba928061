use Rattle.std.proofs.Common.{◌≡◌, ◌≤◌, take, not}
use Rattle.std.specs.List.{count_by}
use Rattle.spec_live.specs.Objects.{is_garbage}
use Rattle.muck_db.specs.inner.Slots.{shown}
use Rattle.muck_db.proofs.moves.count_slots.Given as goal

abbrev pub invariant-loop-slot : goal.invariant-loop-slot
invariant-loop-slot l = record {
  is : l.n ≡ count_by (λ s. not (is_garbage (shown s).kind)) (take l.slot-index l.slots.items);
  most : l.n ≤ l.slot-index;
}
