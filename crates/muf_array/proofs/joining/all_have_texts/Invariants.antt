use Rattle.std.proofs.Common.{◌≡◌, ◌≤◌, ◌-◌, length, drop}
use Rattle.std.specs.Prelude.{is_some}
use Rattle.muf_model.specs.inner.View.{view}
use Rattle.muf_model.specs.ArrayRows.{entries_in, words_of}
use Rattle.muf_array.proofs.joining.all_have_texts.Given as goal

abbrev pub invariant-loop-at : goal.invariant-loop-at
invariant-loop-at l =
    (l.at ≤ length (entries_in (view l.fn.held)))
    × (is_some (words_of (entries_in (view l.fn.held))) ≡ is_some (words_of (drop l.at (entries_in (view l.fn.held)))))

abbrev pub decreases-loop-at : goal.decreases-loop-at
decreases-loop-at l = length (entries_in (view l.fn.held)) - l.at
