-- What stands where memory is wanted in the middle.
use Rattle.std.specs.Prelude.{◌≡◌, ℤ, List, [], ◌∷◌, ◌++◌, Option, Some, None}
use Rattle.muck_model.specs.declared.event.Entry.{Entry}
use Rattle.muck_model.specs.declared.event.Event.TheVariants.{Died}
use Rattle.spec_events.specs.Histories.{History, Grew, by_porter}
use Rattle.muck_script.specs.Story.{StoryTurn, of_process, turn_entries}

-- what happens in a turn, if there is one
abbrev pub entries_of : Option StoryTurn → List Entry
entries_of None = []
entries_of (Some t) = turn_entries t

abbrev pub slice_of : Option ℤ → Option StoryTurn
slice_of None = None
slice_of (Some pid) = Some (of_process pid)

-- the first of these entries happened, and then memory was wanted
pub record DiedDuring (entries : List Entry) (old new : History) : Type 0 where
  pub front : List Entry
  pub rest : List Entry
  pub whole : front ++ rest ≡ entries
  pub died : Grew old new (front ++ by_porter Died ∷ [])
