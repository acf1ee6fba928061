-- Worked rows of the primitives that change objects.
use Rattle.std.specs.Prelude.{◌≡◌, ℕ, pos, negsuc, false, List, [], ◌∷◌, codes, None, refl}
use Rattle.muck_match.specs.Words.{is_same}
use Rattle.muck_lock.specs.Grammar.{part_of}
use Rattle.spec_live.specs.Objects.{dbref_of, object_at, number_in, kind_in, object_in, place_in, home, is_vehicle_in, fits_in, places_from}
use Rattle.spec_live.specs.Flags.{flag_of}
use Rattle.spec_live.specs.Boards.{first_tune, early_board}
use Rattle.spec_live.specs.Chain.{has, walk}
use Rattle.spec_live.specs.Making.{create_check, owner_judged, make_judged, may_make, free_in, objects_most}
use Rattle.spec_live.specs.Moving.{move_judged, move_check}
use Rattle.spec_live.specs.Recycling.{recycle_check}
use Rattle.spec_live.specs.Setting.{checked, checked_both, flags_check, holds_player, home_check, keeps_seats, level_check, link_check, owner_check}
use Rattle.spec_live.specs.Start.{room_zero, player_one, first_objects}
use Rattle.spec_rights.specs.Changing.{flag_cleared, flag_set, leveled, name_given}
use Rattle.spec_rights.specs.Levels.{level_at, owner_at, flag_at, controls_as, owns, is_player_at}
use Rattle.spec_rights.specs.Verdict.{controls, controls_or, is_near}
use Rattle.spec_commands.specs.declared.new.New.TheVariants.{Room, Thing, Exit}
use Rattle.spec_commands.specs.Building.{is_name, object_placed, tied}
use Rattle.spec_commands.specs.Finding.{is_object_so}
use Rattle.spec_commands.specs.Settings.{setting_asked}
use Rattle.muf_model.specs.declared.fault.MufFault.TheVariants.{BadArgument, NoSuchObject, Denied}
use Rattle.muf_model.specs.declared.prims.Primitive.{Primitive}
use Rattle.muf_model.specs.declared.prims.Primitive.TheVariants.{MoveTo, SetLink, SetOwn, Recycle, SetName, Set, SetLockStr, NewRoom, NewObject, NewExit}
use Rattle.muf_model.specs.Datum.{Datum, text, object}
use Rattle.muf_model.specs.StackRows.{truth_item}
use Rattle.spec_prims.specs.Asking.{level_fault, is_number_there, near_fault}
use Rattle.spec_prims.specs.Row.{WorldAnswer, gives, refuses}
use Rattle.spec_prims.specs.ObjectWrites.{changed_with_leave, locked_by, made_so, new_made}
use Rattle.spec_prims.specs.Shared.{first_fault, shared}
use Rattle.spec_prims.specs.inner.Rows.{at_first, acting_at}

-- by a wizard's program, and by one of a player who owns nothing, at a level
abbrev done : Primitive → List Datum → WorldAnswer
done p stack = shared p (acting_at 4 1) None 0 stack at_first

abbrev tried : ℕ → Primitive → List Datum → WorldAnswer
tried level p stack = shared p (acting_at level 7) None 0 stack at_first

abbrev room : Datum
room = object (pos 0)

abbrev one : Datum
one = object (pos 1)

-- an object that isn't there, `#-1` and home
abbrev gone : Datum
gone = object (pos 7)

abbrev nowhere : Datum
nowhere = object (negsuc 0)

abbrev at_home : Datum
at_home = object (negsuc 2)

-- a name upon an object
abbrev called : List ℕ → Datum → List Datum
called name x = text name ∷ x ∷ []

unfoldable pub WritesWorked : Type 0
WritesWorked =
    -- a place has to be there, before anything is near; home names none
    (tried 1 MoveTo (gone ∷ one ∷ []) ≡ refuses NoSuchObject)
    × (tried 1 MoveTo (nowhere ∷ one ∷ []) ≡ refuses NoSuchObject)
    × (tried 1 MoveTo (at_home ∷ one ∷ []) ≡ refuses (Denied 2))
    × (tried 2 MoveTo (room ∷ one ∷ []) ≡ refuses (Denied 8))
    × (done MoveTo (room ∷ one ∷ []) ≡ gives [] (object_placed (dbref_of 1) (dbref_of 0) at_first))
    × (done MoveTo (at_home ∷ one ∷ []) ≡ gives [] (object_placed (dbref_of 1) home at_first))
    -- what has no home of its own, and what would hold itself
    × (done MoveTo (at_home ∷ room ∷ []) ≡ refuses BadArgument)
    × (done MoveTo (one ∷ one ∷ []) ≡ refuses BadArgument)
    -- a link may be `#-1` and home, a home has to be there
    × (done SetLink (gone ∷ room ∷ []) ≡ refuses NoSuchObject)
    × (done SetLink (nowhere ∷ one ∷ []) ≡ refuses BadArgument)
    × (tried 3 SetLink (nowhere ∷ room ∷ []) ≡ refuses (Denied 12))
    × (done SetLink (room ∷ one ∷ []) ≡ gives [] (tied (dbref_of 1) (dbref_of 0) (dbref_of 0) at_first))
    × (done SetLink (nowhere ∷ room ∷ []) ≡ gives [] (tied (dbref_of 0) (record { 0 = negsuc 0 }) (record { 0 = negsuc 0 }) at_first))
    -- an owner is a player, and that of a player stays, before leave is asked
    × (tried 2 SetOwn (room ∷ room ∷ []) ≡ refuses BadArgument)
    × (tried 2 SetOwn (one ∷ one ∷ []) ≡ refuses BadArgument)
    × (tried 3 SetOwn (one ∷ room ∷ []) ≡ refuses (Denied 21))
    -- neither `#0` nor a player is recycled, whoever asks
    × (tried 3 Recycle (room ∷ []) ≡ refuses (Denied 20))
    × (done Recycle (room ∷ []) ≡ refuses BadArgument)
    × (done Recycle (one ∷ []) ≡ refuses BadArgument)
    -- a name that isn't one, before leave is asked
    × (tried 2 SetName (called (codes "#1") room) ≡ refuses BadArgument)
    × (tried 2 SetName (called (codes "Den") gone) ≡ refuses NoSuchObject)
    × (tried 2 SetName (called (codes "Den") room) ≡ refuses (Denied 16))
    × (done SetName (called (codes "Den") room) ≡ gives [] (name_given (dbref_of 0) (codes "Den") at_first))
    -- a flag or a level, in any case; what is neither is found out before leave is asked
    × (tried 2 Set (called (codes "!M1") one) ≡ refuses BadArgument)
    × (tried 2 Set (called [] room) ≡ refuses BadArgument)
    × (tried 2 Set (called (codes "V") gone) ≡ refuses NoSuchObject)
    × (tried 2 Set (called (codes "V") room) ≡ refuses (Denied 16))
    × (done Set (called (codes "v") room) ≡ gives [] (flag_set (dbref_of 0) (record { 0 = flag_of 86 }) at_first))
    × (done Set (called (codes "!V") room) ≡ gives [] (flag_cleared (dbref_of 0) (record { 0 = flag_of 86 }) at_first))
    × (done Set (called (codes "m2") one) ≡ gives [] (leveled (dbref_of 1) 2 at_first))
    × (done Set (called (codes "M2") room) ≡ refuses (Denied 19))
    -- leave is asked before a lock is read; of what is no lock nothing is kept
    × (tried 2 SetLockStr (called (codes "&") room) ≡ refuses (Denied 16))
    × (done SetLockStr (called (codes "&") room) ≡ gives (truth_item false ∷ []) at_first)
    -- what is made in a place: its number, and the next world
    × (tried 2 NewRoom (called (codes "me") room) ≡ refuses BadArgument)
    × (tried 2 NewRoom (called (codes "Den") room) ≡ refuses (Denied 14))
    × (done NewRoom (called (codes "Den") room) ≡ gives (object (pos 2) ∷ []) (made_so Room (codes "Den") (dbref_of 1) 2 0 at_first))
    × (done NewRoom (called (codes "Den") one) ≡ refuses BadArgument)
    × (done NewObject (called (codes "ball") one) ≡ gives (object (pos 2) ∷ []) (made_so (Thing (dbref_of 0)) (codes "ball") (dbref_of 1) 2 1 at_first))
    × (done NewExit (called (codes "out") room) ≡ gives (object (pos 2) ∷ []) (made_so (Exit (record { 0 = negsuc 0 })) (codes "out") (dbref_of 1) 2 0 at_first))

pub writes_worked : WritesWorked
unfolding WritesWorked has walk is_object_so first_tune early_board object_at number_in kind_in object_in place_in is_vehicle_in fits_in places_from create_check owner_judged make_judged may_make free_in objects_most move_judged move_check recycle_check checked checked_both home_check link_check owner_check room_zero player_one first_objects level_at owner_at flag_at controls_as owns is_player_at controls controls_or is_near is_name is_same level_fault is_number_there near_fault changed_with_leave new_made first_fault shared flags_check keeps_seats holds_player level_check setting_asked locked_by part_of
writes_worked = (refl, refl, refl, refl, refl, refl, refl, refl, refl, refl, refl, refl, refl, refl, refl, refl, refl, refl, refl, refl, refl, refl, refl, refl, refl, refl, refl, refl, refl, refl, refl, refl, refl, refl, refl, refl, refl, refl, refl)
