-- One turn of a loop over a collection.
use Rattle.std.specs.Prelude.{List, [], ◌∷◌, Option, Some, None, ℕ}
use Rattle.muf_model.specs.Datum.{Datum}
use Rattle.muf_model.specs.inner.View.{view}
use Rattle.muf_model.specs.Source.{Turns, pairs}
use Rattle.muf_model.specs.inner.Flat.{loop, Flat}
use Rattle.muf_frame.specs.inner.Shown.{flat_turns}
use Rattle.muf_run.specs.declared.keys.Pulled.{Pulled}
use Rattle.muf_run.specs.inner.Machine.{Next, going, placed}

-- the first pair that is left, and the turns behind it
abbrev pub pull : List (Datum × Datum) → Option ((Datum × Datum) × Turns)
pull [] = None
pull (pair ∷ left) = Some (pair, pairs left)

abbrev pub pulled_data : Pulled → (Datum × Datum) × Turns
pulled_data p = ((view p.key, view p.value), flat_turns p.turns)

-- a turn with that pair, or the end of the loop
abbrev pub turn_with : Option ((Datum × Datum) × Turns) → ℕ → ℕ → Flat → Next
turn_with None again after s = going 0 (record s { place = after })
turn_with (Some p) again after s =
    placed (p.0.1 ∷ p.0.0 ∷ s.stack) (record s { marks = loop p.1 again after ∷ s.marks })
