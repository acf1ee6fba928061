-- Where the variables of a program stand among those of all programs.
use Rattle.std.specs.Prelude.{ℕ, suc, List, [], ◌∷◌, map, if◌then◌else◌, ℤ, Option, Some, None}
use Rattle.std.specs.Ordering.{int_eq}
use Rattle.muf_model.specs.Datum.{Datum}
use Rattle.muf_model.specs.inner.View.{view}
use Rattle.muf_model.specs.Source.{Owned}
use Rattle.muf_frame.specs.declared.frame.Owned.{Owned as Kept}

-- the first place of the program, or the length
abbrev pub owner_place : ℤ → List Owned → ℕ
owner_place number [] = 0
owner_place number (o ∷ os) = if int_eq o.program number then 0 else suc (owner_place number os)

-- the variables that were found, or none
abbrev pub owned_values : Option Kept → List Datum
owned_values (Some o) = map view o.values.items
owned_values None = []
