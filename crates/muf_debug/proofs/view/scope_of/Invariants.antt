use Rattle.std.proofs.Common.{◌≡◌, ◌≤◌, ◌-◌, ◌^◌, map, take, drop}
use Rattle.muf_model.specs.inner.View.{view}
use Rattle.muf_debug.proofs.view.scope_of.Given as goal

abbrev pub invariant-loop-number : goal.invariant-loop-number
invariant-loop-number l = record {
  first : 68 ≤ l.number;
  taken : map view l.items.items ≡ take (l.number - 68) (drop l.fn.frame.base (map view l.fn.frame.variables));
}

abbrev pub decreases-loop-number : goal.decreases-loop-number
decreases-loop-number l = 2 ^ 32 - l.number
