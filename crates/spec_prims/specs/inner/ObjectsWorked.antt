-- Worked rows of the primitives of objects.
use Rattle.std.specs.Prelude.{◌≡◌, true, false, pos, negsuc, List, [], ◌∷◌, codes, None, refl}
use Rattle.muck_model.specs.declared.lock.Lock.TheVariants.{Free, Object as IsObject, Not, Both}
use Rattle.muck_model.specs.Decimal.{decimal_of}
use Rattle.muck_model.specs.Numbers.{dbref_written as dbref_in}
use Rattle.muck_lock.specs.Grammar.{part_of}
use Rattle.muf_model.specs.declared.fault.MufFault.TheVariants.{BadArgument, NoSuchObject, Denied}
use Rattle.muf_model.specs.declared.prims.Primitive.{Primitive}
use Rattle.muf_model.specs.declared.prims.Primitive.TheVariants.{Name, Owner, Location, Contents, Exits, Next, IsOk, IsPlayer, HasFlag, MLevel, GetLink, Controls, ParseLock, DbTop}
use Rattle.muf_model.specs.Datum.{Datum, int, text, object, lock}
use Rattle.muf_model.specs.StackRows.{truth_item}
use Rattle.spec_live.specs.Objects.{dbref_of, object_at, number_in, kind_in, object_in, list_in, place_in}
use Rattle.spec_live.specs.Boards.{first_tune, early_board}
use Rattle.spec_live.specs.Start.{room_zero, player_one, first_objects}
use Rattle.spec_live.specs.Seen.{listed_in}
use Rattle.spec_live.specs.Chain.{follower}
use Rattle.spec_rights.specs.Levels.{level_at, owner_at, flag_at, controls_as, owns}
use Rattle.spec_rights.specs.Verdict.{is_near}
use Rattle.spec_prims.specs.Asking.{level_fault, is_number_there, near_fault}
use Rattle.spec_prims.specs.Row.{WorldAnswer, gives, refuses}
use Rattle.spec_prims.specs.ObjectRows.{next_in_list, next_of}
use Rattle.spec_prims.specs.Shared.{first_fault, shared}
use Rattle.spec_prims.specs.inner.Rows.{at_first, acting_at, hello}

-- by a wizard's program, in a world of Room Zero and One
abbrev done : Primitive → List Datum → WorldAnswer
done p stack = shared p (acting_at 4 1) None 0 stack at_first

abbrev answers : Primitive → List Datum → Datum → Type 0
answers p stack item = done p stack ≡ gives (item ∷ []) at_first

abbrev room : Datum
room = object (pos 0)

abbrev one : Datum
one = object (pos 1)

abbrev nothing : Datum
nothing = object (negsuc 0)

unfoldable pub ObjectsWorked : Type 0
ObjectsWorked =
    answers Name (room ∷ []) (text (codes "Room Zero"))
    × answers Owner (room ∷ []) one
    × answers Owner (one ∷ []) one
    × answers Location (one ∷ []) room
    × answers Location (room ∷ []) nothing
    × answers Contents (room ∷ []) one
    × answers Contents (one ∷ []) nothing
    × answers Exits (room ∷ []) nothing
    × answers Next (one ∷ []) nothing
    -- an object that isn't there, and one that isn't near
    × (done Name (object (pos 7) ∷ []) ≡ refuses NoSuchObject)
    × (shared Name (acting_at 1 7) None 0 (one ∷ []) at_first ≡ refuses (Denied 2))
    -- any item may be asked what it is
    × answers IsOk (hello ∷ []) (truth_item false)
    × answers IsOk (object (pos 7) ∷ []) (truth_item false)
    × answers IsOk (room ∷ []) (truth_item true)
    × answers IsPlayer (room ∷ []) (truth_item false)
    × answers IsPlayer (one ∷ []) (truth_item true)
    -- a wizard's level is the highest, and a player's link is its home
    × answers MLevel (one ∷ []) (int (pos 4))
    × answers GetLink (one ∷ []) room
    × answers GetLink (room ∷ []) nothing
    × answers Controls (room ∷ one ∷ []) (truth_item true)
    × answers DbTop [] (object (pos 2))
    -- flags, in any case; what is no flag is found out before what is near
    × answers HasFlag (text (codes "w") ∷ one ∷ []) (truth_item true)
    × answers HasFlag (text (codes "!W") ∷ one ∷ []) (truth_item false)
    × answers HasFlag (text (codes "!D") ∷ one ∷ []) (truth_item true)
    × (done HasFlag (text (codes "M1") ∷ one ∷ []) ≡ refuses BadArgument)
    × (done HasFlag (text (codes "E") ∷ one ∷ []) ≡ refuses BadArgument)
    × (done HasFlag (text [] ∷ one ∷ []) ≡ refuses BadArgument)
    × (shared HasFlag (acting_at 1 7) None 0 (text (codes "WD") ∷ one ∷ []) at_first ≡ refuses BadArgument)
    -- a lock that a text is read as
    × answers ParseLock (text [] ∷ []) (lock Free)
    × answers ParseLock (text (codes "(#1)&!#0") ∷ []) (lock (Both (IsObject (dbref_of 1)) (Not (IsObject (dbref_of 0)))))
    × (done ParseLock (text (codes "#1|") ∷ []) ≡ refuses BadArgument)

pub objects_worked : ObjectsWorked
unfolding ObjectsWorked first_tune early_board object_at number_in kind_in object_in list_in place_in room_zero player_one first_objects listed_in follower level_at owner_at flag_at controls_as owns is_near level_fault is_number_there near_fault next_in_list next_of first_fault shared part_of dbref_in decimal_of
objects_worked = (refl, refl, refl, refl, refl, refl, refl, refl, refl, refl, refl, refl, refl, refl, refl, refl, refl, refl, refl, refl, refl, refl, refl, refl, refl, refl, refl, refl, refl, refl, refl)
