use Rattle.std.proofs.Common.{◌≡◌, ◌≤◌, length}
use Rattle.muck_lock.specs.Naming.{Naming}
use Rattle.muck_lock.specs.inner.Waiting.{outcome_behind}
use Rattle.muck_lock.proofs.reader.put_together.Given as goal

abbrev pub invariant-loop-last : goal.invariant-loop-last
invariant-loop-last l = record {
  outcome : (names : Naming) → outcome_behind names l.text l.waiting.items l.lock l.end ≡ outcome_behind names l.text l.fn.waiting.items l.fn.piece.lock l.fn.piece.end;
  from : l.fn.piece.end ≤ l.end;
  to : l.end ≤ length l.text;
}

abbrev pub decreases-loop-last : goal.decreases-loop-last
decreases-loop-last l = length l.waiting.items
