-- What commands do to the world that a guard lends.
use Rattle.std.specs.Prelude.{◌≡◌, Option, Some, None, Result, Ok, Err}
use Rattle.muck_model.specs.declared.dbref.Dbref.{Dbref}
use Rattle.muck_model.specs.declared.memory.NoMemory.{NoMemory}
use Rattle.spec_live.specs.Lives.{Change}
use Rattle.spec_commands.specs.declared.outcome.Outcome.{Outcome}
use Rattle.spec_commands.specs.declared.outcome.Outcome.TheVariants.{Done as Finished}
use Rattle.spec_commands.specs.Going.{Play}
use Rattle.muck_perm.specs.declared.guard.Guard.{Guard}
use Rattle.muck_perm.specs.inner.Guards.{Done, Same, world_of}

-- the world changed as the play says, and what is to follow is what it says; or memory was wanted
abbrev pub Plays : Play → Guard → Guard → Result Outcome NoMemory → Type 0
Plays p old new (Ok outcome) = Done (λ w. (p w).0) old new × (outcome ≡ (p (world_of old)).1)
Plays p old new (Err e) = Same old new

-- one object was found, nothing happened, and the command goes on with it; or it has ended
abbrev pub Finds : ((Dbref → Change) → Change) → Guard → Guard → Result (Option Dbref) NoMemory → Type 0
Finds seek old new (Ok (Some x)) = (new ≡ old) × ((go : Dbref → Change) → seek go (world_of old) ≡ go x (world_of old))
Finds seek old new (Ok None) = (go : Dbref → Change) → Done (seek go) old new
Finds seek old new (Err e) = Same old new

-- one object was found for a line, nothing happened, and the line goes on with it; or it is done
abbrev pub FindsFor : ((Dbref → Play) → Play) → Guard → Guard → Result (Option Dbref) NoMemory → Type 0
FindsFor seek old new (Ok (Some x)) = (new ≡ old) × ((go : Dbref → Play) → seek go (world_of old) ≡ go x (world_of old))
FindsFor seek old new (Ok None) = (go : Dbref → Play) → Plays (seek go) old new (Ok Finished)
FindsFor seek old new (Err e) = Same old new
