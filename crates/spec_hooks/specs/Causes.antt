-- What programs hear of: who went, moved and came, and what was said.
use Rattle.std.specs.Prelude.{ℕ, suc, Bool, not, ◌&&◌, if◌then◌else◌, List, [], ◌∷◌, ◌++◌, Option, Some, None}
use Rattle.muck_model.specs.declared.dbref.Dbref.{Dbref}
use Rattle.spec_live.specs.Objects.{Entry, dbref_of, same}
use Rattle.spec_live.specs.Stood.{stands_in}
use Rattle.spec_live.specs.Lives.{Live, place_at}
use Rattle.spec_commands.specs.Talking.{is_connected}
use Rattle.spec_hooks.specs.declared.cause.Cause.{Cause}
use Rattle.spec_hooks.specs.declared.cause.Cause.TheVariants.{Arrive, Depart, Connect, Disconnect, Listen}

-- where that is so
abbrev pub where_true : Bool → Cause → List Cause
where_true b cause = if b then cause ∷ [] else []

abbrev pub moves : Dbref → Option Dbref → Option Dbref → List Cause
moves player (Some from) (Some to) = if same from to then [] else Depart player from ∷ Arrive player to ∷ []
moves player from to = []

-- its last connection went, and its first one came
abbrev pub has_gone : Live → Live → Dbref → Bool
has_gone before after player = is_connected player before && not (is_connected player after)

abbrev pub has_come : Live → Live → Dbref → Bool
has_come before after player = is_connected player after && not (is_connected player before)

-- Of the player of a number: its last connection went; it stands elsewhere than before; its first connection came. One that wasn't there before has left no place, and arrives nowhere.
abbrev pub causes_of : Live → Live → ℕ → List Cause
causes_of before after n =
    where_true (has_gone before after (dbref_of n)) (Disconnect (dbref_of n))
    ++ (moves (dbref_of n) (stands_in before.objects n) (stands_in after.objects n)
    ++ where_true (has_come before after (dbref_of n)) (Connect (dbref_of n)))

-- of all, by their numbers from n on
abbrev pub causes_from : Live → Live → ℕ → List Entry → List Cause
causes_from before after n [] = []
causes_from before after n (e ∷ es) = causes_of before after n ++ causes_from before after (suc n) es

-- a player said or posed something, which others hear so
abbrev pub heard : Live → Option (Dbref × List ℕ) → List Cause
heard after None = []
heard after (Some (player, text)) = Listen player (place_at player after) text ∷ []

-- from one world to the next, by a line that said this, where it said anything
unfoldable pub causes : Live → Live → Option (Dbref × List ℕ) → List Cause
causes before after spoken = causes_from before after 0 after.objects ++ heard after spoken
