-- The rows of the primitives that change objects.
use Rattle.std.specs.Prelude.{ℕ, ◌||◌, ◌&&◌, not, if◌then◌else◌, Bool, true, false, List, [], ◌∷◌, codes, Option, Some, None, Result, Ok, Err}
use Rattle.muck_model.specs.declared.dbref.Dbref.{Dbref}
use Rattle.muck_model.specs.declared.lock.Lock.{Lock}
use Rattle.muck_prop.specs.declared.value.PropValue.TheVariants.{Text}
use Rattle.muck_lock.specs.Grammar.{lock_of}
use Rattle.spec_live.specs.declared.fault.DbFault.{DbFault}
use Rattle.spec_live.specs.declared.fault.DbFault.TheVariants.{WorldFull as NoRoom}
use Rattle.spec_live.specs.Making.{create_check}
use Rattle.spec_live.specs.Objects.{Entry, dbref_of, nothing, home, same}
use Rattle.spec_live.specs.Recycling.{recycle_check}
use Rattle.spec_live.specs.Setting.{owner_check}
use Rattle.spec_live.specs.Lives.{Live, Change}
use Rattle.spec_rights.specs.declared.act.Actor.{Actor}
use Rattle.spec_rights.specs.declared.act.Act.{Act}
use Rattle.spec_rights.specs.declared.act.Act.TheVariants.{Change as ChangeAct, Link, Move, Recycle as RecycleAct, Rename, SetOwner}
use Rattle.spec_rights.specs.Changing.{created_so, name_given, object_owned_by, recycled_now, property_stored}
use Rattle.spec_rights.specs.Levels.{is_player_at}
use Rattle.spec_rights.specs.Verdict.{verdict}
use Rattle.spec_commands.specs.declared.new.New.{New}
use Rattle.spec_commands.specs.declared.new.New.TheVariants.{Room, Thing, Exit}
use Rattle.spec_commands.specs.Building.{act_in, allowed, as_new, is_name, is_still_there as is_object_there, key_kept, key_names, kind_made, may_be, may_be_called, may_tie, meant_place, object_placed, tied}
use Rattle.spec_commands.specs.Finding.{message_path}
use Rattle.spec_commands.specs.Going.{home_at, movable}
use Rattle.spec_commands.specs.declared.setting.Setting.{Setting}
use Rattle.spec_commands.specs.Settings.{may_set, set_so, setting_act, setting_asked}
use Rattle.muf_model.specs.declared.fault.MufFault.{MufFault}
use Rattle.muf_model.specs.declared.fault.MufFault.TheVariants.{BadType, BadArgument, NoSuchObject, WorldFull}
use Rattle.muf_model.specs.declared.prims.Primitive.{Primitive}
use Rattle.muf_model.specs.declared.prims.Primitive.TheVariants.{MoveTo, SetLink, SetOwn, Recycle, SetName, Set, SetLockStr, NewRoom, NewObject, NewExit}
use Rattle.muf_model.specs.Datum.{Datum, text, object}
use Rattle.muf_model.specs.StackRows.{truth_item}
use Rattle.spec_prims.specs.Asking.{fault_of_denial, is_number_there, near_fault, object_numbered}
use Rattle.spec_prims.specs.Row.{WorldAnswer, gives, refuses, row_unless, WorldDoing, unruled}

-- Leave is asked for an act. Then it is changed so, where the world allows it, and nothing is given.
unfoldable pub changed_with_leave : Actor → Act → Bool → Change → Live → WorldAnswer
changed_with_leave a act may f w = row_unless (fault_of_denial (verdict w.objects a act)) (if may then gives [] (f w) else refuses BadArgument)

-- an argument as it should be
abbrev pub badly : Bool → Option MufFault
badly true = None
badly false = Some BadArgument

-- One object: it is recycled.

abbrev pub thrown_away : Actor → Dbref → Live → WorldAnswer
thrown_away a x w = changed_with_leave a (RecycleAct x) (allowed (recycle_check x w.objects)) (recycled_now x) w

-- Two objects, of which the one at the top is where the other goes, leads or belongs.

abbrev pub missing : List Entry → Dbref → Option MufFault
missing es to = if is_number_there es to.0 then None else Some NoSuchObject

-- Home as a place is the object's own; another place has to be there, and near.
abbrev pub misplaced : Dbref → Live → Option MufFault
misplaced to w = if same to home then None else missing w.objects to

abbrev pub place_far : Actor → List Entry → Dbref → Option MufFault
place_far a es to = if same to home then None else near_fault a es to.0

-- as a link `#-1` and `#-3` name no object
abbrev pub mislinked : Dbref → Live → Option MufFault
mislinked to w = if same to nothing || same to home then None else missing w.objects to

-- an owner is a player, and that of a player can't change
abbrev pub misowned : Dbref → Dbref → Live → Option MufFault
misowned x owner w = badly (not (is_player_at w.objects x) && is_player_at w.objects owner)

abbrev pub done_to_two : Primitive → Actor → Dbref → Dbref → Live → WorldAnswer
done_to_two MoveTo a x to w = row_unless (place_far a w.objects to) (changed_with_leave a (Move x to) (movable x (meant_place x to w) w) (object_placed x to) w)
done_to_two SetLink a x to w = row_unless (mislinked to w) (changed_with_leave a (Link x to) (may_tie x to to w) (tied x to to) w)
done_to_two SetOwn a x to w = row_unless (misowned x to w) (changed_with_leave a (SetOwner x to) (allowed (owner_check x to w.objects)) (object_owned_by x to) w)
done_to_two p a x to w = refuses BadType

-- A text for an object: its name, a flag or a level, its lock, or the name of what is made in it. The user owns what is made, the home of a thing is the
-- user's, and an exit leads nowhere yet.

-- it is made where the world allows it, and its number is given
abbrev pub given_made : Result (ℕ × ℕ) DbFault → (ℕ → ℕ → Change) → Live → WorldAnswer
given_made (Ok p) make w = gives (object (dbref_of p.0).0 ∷ []) (make p.0 p.1 w)
given_made (Err NoRoom) make w = refuses WorldFull
given_made (Err fault) make w = refuses BadArgument

abbrev pub made_so : New → List ℕ → Dbref → ℕ → ℕ → Change
made_so new name owner n to = created_so n (kind_made new) name owner to (as_new new)

unfoldable pub new_made : Actor → New → List ℕ → Dbref → Live → WorldAnswer
new_made a new name place w =
    row_unless (fault_of_denial (verdict w.objects a (act_in place new)))
    (if may_be new w then given_made (create_check (kind_made new) a.user place w.objects) (made_so new name a.user) w else refuses BadArgument)

abbrev pub renamed : Actor → Dbref → List ℕ → Live → WorldAnswer
renamed a x name w = row_unless (badly (may_be_called x name w)) (changed_with_leave a (Rename x) (is_object_there x w) (name_given x name) w)

abbrev pub made_named : Actor → New → List ℕ → Dbref → Live → WorldAnswer
made_named a new name place w = row_unless (badly (is_name name)) (new_made a new name place w)

-- what asks neither for a flag nor for a level is found out before leave is asked
abbrev pub set_by : Actor → Dbref → Option Setting → Live → WorldAnswer
set_by a x (Some setting) w = changed_with_leave a (setting_act x setting) (may_set x setting w) (set_so x setting) w
set_by a x None w = refuses BadArgument

-- A lock is kept as it is printed, and the free one not at all; one that is too long to be printed is refused.
abbrev pub lock_put : Dbref → Option (List ℕ) → Live → WorldAnswer
lock_put x (Some printed) w = if is_object_there x w then gives (truth_item true ∷ []) (property_stored x (message_path (codes "lok")) (Text printed) w) else refuses BadArgument
lock_put x None w = refuses BadArgument

-- nothing is kept of a text that the player means no lock by
abbrev pub key_kept_of : Dbref → Result Lock ℕ → Live → WorldAnswer
key_kept_of x (Ok lock) w = lock_put x (key_kept (Ok lock)) w
key_kept_of x (Err at) w = gives (truth_item false ∷ []) w

unfoldable pub locked_by : Actor → Dbref → List ℕ → Live → WorldAnswer
locked_by a x t w = row_unless (fault_of_denial (verdict w.objects a (ChangeAct x))) (key_kept_of x (lock_of (key_names w a.player) t) w)

abbrev pub done_by_text : Primitive → Actor → Dbref → List ℕ → Live → WorldAnswer
done_by_text SetName a x t w = renamed a x t w
done_by_text Set a x t w = set_by a x (setting_asked t) w
done_by_text SetLockStr a x t w = locked_by a x t w
done_by_text NewRoom a x t w = made_named a Room t x w
done_by_text NewObject a x t w = made_named a (Thing (home_at a.user w)) t x w
done_by_text NewExit a x t w = made_named a (Exit nothing) t x w
done_by_text p a x t w = refuses BadType

-- The shapes of what they take.

abbrev pub one_done : (Actor → Dbref → Live → WorldAnswer) → Actor → List Datum → Live → WorldAnswer
one_done does a (object x ∷ []) w = does a (object_numbered x) w
one_done does a items w = refuses BadType

abbrev pub two_done : (Actor → Dbref → Dbref → Live → WorldAnswer) → Actor → List Datum → Live → WorldAnswer
two_done does a (object to ∷ object x ∷ []) w = does a (object_numbered x) (object_numbered to) w
two_done does a items w = refuses BadType

abbrev pub text_done : (Actor → Dbref → List ℕ → Live → WorldAnswer) → Actor → List Datum → Live → WorldAnswer
text_done does a (text t ∷ object x ∷ []) w = does a (object_numbered x) t w
text_done does a items w = refuses BadType

-- Each of them.

-- the place has to be there, which is asked before what is near
abbrev pub place_missing : Actor → List Datum → Live → Option MufFault
place_missing a (object to ∷ items) w = misplaced (object_numbered to) w
place_missing a items w = None

abbrev pub moves : WorldDoing
moves = record {
  argued = λ a items w. place_missing a items w;
  does = λ a items w. two_done (done_to_two MoveTo) a items w;
}

-- the row of a primitive that changes objects, where there is one
abbrev pub writing_row : Primitive → Option WorldDoing
writing_row MoveTo = Some moves
writing_row SetLink = Some (unruled (two_done (done_to_two SetLink)))
writing_row SetOwn = Some (unruled (two_done (done_to_two SetOwn)))
writing_row Recycle = Some (unruled (one_done thrown_away))
writing_row SetName = Some (unruled (text_done (done_by_text SetName)))
writing_row Set = Some (unruled (text_done (done_by_text Set)))
writing_row SetLockStr = Some (unruled (text_done (done_by_text SetLockStr)))
writing_row NewRoom = Some (unruled (text_done (done_by_text NewRoom)))
writing_row NewObject = Some (unruled (text_done (done_by_text NewObject)))
writing_row NewExit = Some (unruled (text_done (done_by_text NewExit)))
writing_row p = None
