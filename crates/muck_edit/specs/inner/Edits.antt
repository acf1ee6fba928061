-- What a line does to the editor and to the world that a guard lends.
use Rattle.std.specs.Prelude.{◌≡◌, ◌≤◌, ℕ, Result, Ok, Err}
use Rattle.muck_model.specs.declared.edit.EditState.{EditState}
use Rattle.muck_model.specs.declared.memory.NoMemory.{NoMemory}
use Rattle.spec_commands.specs.declared.edit.EditCommand.{EditCommand}
use Rattle.spec_commands.specs.declared.edit.EditCommand.TheVariants.{Insert, Delete, Show}
use Rattle.spec_commands.specs.declared.edit.EditStep.{EditStep}
use Rattle.spec_commands.specs.Editing.{Editing}
use Rattle.muck_perm.specs.declared.guard.Guard.{Guard}
use Rattle.muck_perm.specs.inner.Guards.{Done, Same, world_of}

-- the world, the state of the editor and what follows are as the definition says; or memory was wanted
abbrev pub Edits : Editing → Guard → Guard → EditState → Result EditStep NoMemory → Type 0
Edits p old new state (Ok step) = Done (λ w. (p w).0) old new × (state ≡ (p (world_of old)).1) × (step ≡ (p (world_of old)).2)
Edits p old new state (Err e) = Same old new

-- the places that a command names stand between so many lines
abbrev pub IsWithin : ℕ → EditCommand → Type 0
IsWithin count (Insert at) = at ≤ count
IsWithin count (Delete from to) = (from ≤ to) × (to ≤ count)
IsWithin count (Show from to) = (from ≤ to) × (to ≤ count)
IsWithin count command = Unit {0}
