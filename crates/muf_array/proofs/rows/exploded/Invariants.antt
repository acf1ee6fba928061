use Rattle.std.proofs.Common.{◌≡◌, ◌≤◌, ◌∷◌, length, map, drop}
use Rattle.std.specs.Prelude.{pos}
use Rattle.muf_model.specs.Datum.{int}
use Rattle.muf_model.specs.inner.View.{view}
use Rattle.muf_model.specs.ArrayRows.{entries_in, spread}
use Rattle.muf_array.proofs.rows.exploded.Given as goal

abbrev pub invariant-loop-at : goal.invariant-loop-at
invariant-loop-at l =
    (l.at ≤ length (entries_in (view l.fn.held)))
    × (l.at ≤ 65535)
    × (map view l.items.items ≡ int (pos (length (entries_in (view l.fn.held)))) ∷ spread (drop l.at (entries_in (view l.fn.held))))

abbrev pub decreases-loop-at : goal.decreases-loop-at
decreases-loop-at l = l.at
