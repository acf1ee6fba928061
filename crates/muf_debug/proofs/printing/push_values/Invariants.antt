use Rattle.std.proofs.Common.{◌≡◌, ◌≤◌, ◌-◌, ◌++◌, length, map, take}
use Rattle.muf_model.specs.inner.View.{view}
use Rattle.muf_debug.specs.Printed.{values_text}
use Rattle.muf_debug.specs.inner.Printing.{AreInside}
use Rattle.muf_debug.proofs.printing.push_values.Given as goal

abbrev pub invariant-loop-at : goal.invariant-loop-at
invariant-loop-at l = record {
  within : l.at ≤ length l.fn.values;
  pushed : l.bytes.items ≡ l.fn.bytes.items ++ values_text (map view (take l.at l.fn.values));
  inside : AreInside (values_text (map view (take l.at l.fn.values)));
}

abbrev pub decreases-loop-at : goal.decreases-loop-at
decreases-loop-at l = length l.fn.values - l.at
