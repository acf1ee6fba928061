-- What is done with a message that is spoken.
use Rattle.std.specs.Prelude.{◌≡◌, ℕ, List, Option, Some, None, Result, Ok, Err}
use Rattle.muck_model.specs.declared.memory.NoMemory.{NoMemory}
use Rattle.spec_live.specs.Lives.{Change}
use Rattle.muck_perm.specs.declared.guard.Guard.{Guard}
use Rattle.muck_perm.specs.inner.Guards.{Same, Kept, world_of}

-- nothing but the world of the guard has changed, and what is to follow goes on there with the text that came of it
abbrev pub Speaks : ((List ℕ → Change) → Change) → Guard → Guard → Result (List ℕ) NoMemory → Type 0
Speaks say old new (Ok text) = Kept old new × ((go : List ℕ → Change) → say go (world_of old) ≡ go text (world_of new))
Speaks say old new (Err e) = Same old new

-- the same of a message that may not be there
abbrev pub Says : (Change → (List ℕ → Change) → Change) → Guard → Guard → Result (Option (List ℕ)) NoMemory → Type 0
Says say old new (Ok (Some text)) = Kept old new × ((otherwise : Change) (go : List ℕ → Change) → say otherwise go (world_of old) ≡ go text (world_of new))
Says say old new (Ok None) = (new ≡ old) × ((otherwise : Change) (go : List ℕ → Change) → say otherwise go (world_of old) ≡ otherwise (world_of old))
Says say old new (Err e) = Same old new
