-- Where players stand, and where they stood when the event began.
use Rattle.std.specs.Prelude.{◌≡◌, ℕ, suc, if◌then◌else◌, List, [], ◌∷◌, ◌++◌, map, Option, Some, None, slice_get}
use Rattle.std.specs.Option.{option_and_then}
use Rattle.muck_model.specs.declared.dbref.Dbref.{Dbref}
use Rattle.spec_live.specs.declared.object.Object.{Object}
use Rattle.spec_live.specs.declared.moved.Move.{Move}
use Rattle.spec_live.specs.Objects.{Entry, dbref_of, same, is_player, object_in}
use Rattle.spec_live.specs.Saving.{Marked}

-- where an object stands, where it is a player
abbrev pub standing : Object → Option Dbref
standing o = if is_player o.kind then Some o.place else None

-- Readers, by number. What isn't there stands nowhere.

unfoldable pub stands_in : List Entry → ℕ → Option Dbref
stands_in es k = option_and_then standing (object_in es k)

unfoldable pub stood_in : List Entry → ℕ → Option Dbref
stood_in es k = option_and_then (λ e. e.stood) (slice_get es k)

-- Who stands elsewhere than before, by rising number, where the first number is n. One that wasn't there as a player has left no place.

abbrev pub move_of : ℕ → Option Dbref → Option Dbref → List Move
move_of n (Some from) (Some to) = if same from to then [] else record { player = dbref_of n; from = from; to = to } ∷ []
move_of n from to = []

unfoldable pub moves_from : ℕ → List Entry → List Move
moves_from n [] = []
moves_from n (e ∷ es) = move_of n e.stood (standing e.object) ++ moves_from (suc n) es

-- An event begins: where players stand is where they stood.

abbrev pub still : Entry → Entry
still e = record e { stood = standing e.object }

unfoldable pub stilled : List Entry → List Entry
stilled es = map still es

-- nobody has moved since the event began
abbrev pub IsStill : List Entry → Type 0
IsStill es = (k : ℕ) → stood_in es k ≡ stands_in es k

-- it is the same event
abbrev pub SameStood : List Entry → List Entry → Type 0
SameStood es fs = (k : ℕ) → stood_in fs k ≡ stood_in es k

-- What changes within an event, however they are: each object is due, or as before, and where players stood is kept.
pub record Traced (es fs : List Entry) : Type 0 where
  pub marks : Marked es fs
  pub stood : SameStood es fs
