-- How a process begins.
use Rattle.std.specs.Prelude.{◌≡◌, ℕ, List, [], ◌∷◌, Option, Some, None, slice_get}
use Rattle.muf_model.specs.declared.code.Code.{Code}
use Rattle.muf_model.specs.declared.code.CodeWord.{CodeWord}
use Rattle.muf_model.specs.Datum.{Datum, object, text}
use Rattle.muf_running.specs.declared.begin.Occasion.{Occasion}
use Rattle.muf_running.specs.declared.begin.Start.{Start}

-- the first values of ME, LOC, TRIGGER and COMMAND
abbrev pub common_of : Occasion → List Datum
common_of o = object o.player.0 ∷ object o.place.0 ∷ object o.trigger.0 ∷ text o.command ∷ []

-- the beginning of a word that is there
abbrev pub StartsIn : Option CodeWord → Start → Type 0
StartsIn (Some w) start = (start.place ≡ w.start) × (start.variables ≡ w.variables)
StartsIn None start = ⊥

-- the beginning of the word of this number
abbrev pub StartsAt : Code → ℕ → Start → Type 0
StartsAt code n start = StartsIn (slice_get code.words n) start × (start.owned ≡ code.variables)
