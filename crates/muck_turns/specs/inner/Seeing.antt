-- Slices of whose units a watch is told, by what the code of them answers.
use Rattle.std.specs.Prelude.{ℕ, ℤ, List, map, Option, Some, None}
use Rattle.muck_model.specs.declared.tune.Tune.{Tune}
use Rattle.muf_debug.specs.declared.view.View.{View}
use Rattle.muf_debug.specs.Watching.{SeesAll}
use Rattle.spec_events.specs.World.{World}
use Rattle.spec_events.specs.Slices.{units_run}
use Rattle.spec_views.specs.Views.{view_of}

-- what is seen of the units of a process that has so many
abbrev pub views : Tune → ℕ → ℤ → World → List View
views tune n pid w = map (view_of pid) (units_run tune n pid w)

-- a watch was told of the next unit, where there is one: with the others, where it goes on, of all; else of all
abbrev pub SeesNext : {S : Type 0} → (S → View → S → Type 0) → Tune → ℤ → ℕ → World → World → S → S → Option ℕ → Type 0
SeesNext {S = S} tells tune pid n w v a b (Some left) = (c : S) → SeesAll tells (views tune left pid v) b c → SeesAll tells (views tune n pid w) a c
SeesNext tells tune pid n w v a b None = SeesAll tells (views tune n pid w) a b
