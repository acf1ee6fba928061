-- The rows of the primitives of objects.
use Rattle.std.specs.Prelude.{ℕ, ◌==◌, pos, negsuc, nat_lt, if◌then◌else◌, Bool, true, false, not, List, [], ◌∷◌, length, codes, Option, Some, None, option_map, Result, Ok, Err}
use Rattle.std.specs.Option.{option_or, option_map_or, option_and_then}
use Rattle.std.specs.List.{list_any}
use Rattle.std.specs.Char.{to_ascii_uppercase}
use Rattle.muck_model.specs.declared.dbref.Dbref.{Dbref}
use Rattle.muck_model.specs.declared.dbref.Kind.{Kind}
use Rattle.muck_model.specs.declared.dbref.Kind.TheVariants.{Room, Thing, Exit, Player}
use Rattle.muck_model.specs.declared.lock.Lock.{Lock}
use Rattle.muck_model.specs.Bytes.{text_fault, text_most}
use Rattle.muck_match.specs.declared.naming.Found.{Found}
use Rattle.muck_match.specs.declared.naming.Found.TheVariants.{One, None as Nobody, Many}
use Rattle.muck_match.specs.Naming.{thing_found, player_named}
use Rattle.muck_lock.specs.Grammar.{lock_of}
use Rattle.muck_lock.specs.Printed.{lock_printed}
use Rattle.muck_lock.specs.Opens.{opens_for}
use Rattle.spec_live.specs.declared.object.Object.{Object}
use Rattle.spec_live.specs.Chain.{follower}
use Rattle.spec_live.specs.Flags.{flag_of}
use Rattle.spec_live.specs.Objects.{Entry, dbref_of, nothing, object_at, number_in, place_in, kind_in, list_in, is_room, is_thing, is_exit, is_player, is_program}
use Rattle.spec_live.specs.Seen.{scenery_of, listed_in, long_form}
use Rattle.spec_live.specs.Worth.{holdings_of, lock_text}
use Rattle.spec_live.specs.Lives.{Live}
use Rattle.spec_rights.specs.declared.act.Actor.{Actor}
use Rattle.spec_rights.specs.Levels.{controls_as, flag_at, level_at, dbref_number, owner_at}
use Rattle.spec_rights.specs.Verdict.{place_or_nothing}
use Rattle.spec_commands.specs.Building.{keys_in}
use Rattle.muf_model.specs.declared.fault.MufFault.{MufFault}
use Rattle.muf_model.specs.declared.fault.MufFault.TheVariants.{BadType, BadArgument, TextTooLong}
use Rattle.muf_model.specs.declared.prims.Family.{Family}
use Rattle.muf_model.specs.declared.prims.Family.TheVariants as kind
use Rattle.muf_model.specs.declared.prims.Primitive.{Primitive}
use Rattle.muf_model.specs.declared.prims.Primitive.TheVariants.{Name, Owner, Location, Contents, Exits, Next, IsOk, IsPlayer, IsThing, IsRoom, IsExit, IsProgram, Match, PMatch, HasFlag, MLevel, GetLink, Controls, GetLockStr, ParseLock, UnparseLock, TestLock, UnparseObj, DbTop}
use Rattle.muf_model.specs.Datum.{Datum, int, text, object, lock}
use Rattle.muf_model.specs.StackRows.{truth_item}
use Rattle.muf_model.specs.Prims.{family_of}
use Rattle.spec_prims.specs.Asking.{object_numbered}
use Rattle.spec_prims.specs.Row.{WorldAnswer, gives, refuses, WorldDoing}
use Rattle.spec_prims.specs.ObjectWrites.{writing_row}

-- What a primitive finds, and changes nothing: an item, or why it finds none.
abbrev pub Finding : Type 0
Finding = Actor → List Entry → List Datum → Result Datum MufFault

-- a number that stands for an object, or for none
abbrev pub seen : Dbref → Result Datum MufFault
seen d = Ok (object d.0)

-- a text that is read
abbrev pub text_read_out : List ℕ → Result Datum MufFault
text_read_out bytes = option_map_or (λ at. Err TextTooLong) (text_fault bytes) (Ok (text bytes))

-- One object.

abbrev pub first_or_nothing : List Dbref → Dbref
first_or_nothing [] = nothing
first_or_nothing (x ∷ xs) = x

-- what stands behind it in its list
unfoldable pub next_in_list : List Entry → ℕ → Option ℕ
next_in_list es n = option_and_then (λ p. follower n (list_in (is_exit (kind_in es n)) es p)) (place_in es n)

unfoldable pub next_of : List Entry → Dbref → Dbref
next_of es d = option_map_or dbref_of (option_and_then (next_in_list es) (number_in es d)) nothing

-- exits and rooms have a link, things and players a home, and other objects neither
abbrev pub tie_by : Kind → Object → Dbref
tie_by Exit o = o.link
tie_by Room o = o.link
tie_by Thing o = o.home
tie_by Player o = o.home
tie_by other o = nothing

-- what is found of an object
abbrev pub found_of : Primitive → Dbref → List Entry → Result Datum MufFault
found_of Name d es = Ok (text (option_map_or (λ o. o.name) (object_at d es) []))
found_of Owner d es = seen (owner_at es d)
found_of Location d es = seen (place_or_nothing es d)
found_of Contents d es = seen (first_or_nothing (listed_in false d es))
found_of Exits d es = seen (first_or_nothing (listed_in true d es))
found_of Next d es = seen (next_of es d)
found_of MLevel d es = Ok (int (pos (level_at es d)))
found_of GetLink d es = seen (option_map_or (λ o. tie_by o.kind o) (object_at d es) nothing)
found_of GetLockStr d es = Ok (text (lock_text d es))
found_of UnparseObj d es = text_read_out (option_map_or (long_form (dbref_number d)) (object_at d es) [])
found_of p d es = Err BadType

abbrev pub one_object : (Dbref → List Entry → Result Datum MufFault) → Finding
one_object find a es (object d ∷ []) = find (object_numbered d) es
one_object find a es items = Err BadType

-- Any item.

-- what is asked of the kind of an object that is there
abbrev pub kind_asked : Primitive → Kind → Bool
kind_asked IsPlayer = is_player
kind_asked IsThing = is_thing
kind_asked IsRoom = is_room
kind_asked IsExit = is_exit
kind_asked IsProgram = is_program
kind_asked p = λ other. true

abbrev pub is_such : (Kind → Bool) → List Entry → Datum → Bool
is_such test es (object d) = option_map_or (λ o. test o.kind) (object_at (object_numbered d) es) false
is_such test es item = false

abbrev pub one_item : (Kind → Bool) → Finding
one_item test a es (item ∷ []) = Ok (truth_item (is_such test es item))
one_item test a es items = Err BadType

-- A text.

-- nothing for what isn't found, and `#-2` for several
abbrev pub dbref_meant : Found → Dbref
dbref_meant (One d) = d
dbref_meant Nobody = nothing
dbref_meant Many = record { 0 = negsuc 1 }

-- what the player of the actor means by a text, and the player of a name
abbrev pub found_by : Primitive → Actor → List Entry → List ℕ → Dbref
found_by PMatch a es t = option_map_or (λ d. d) (player_named (scenery_of es) t) nothing
found_by p a es t = dbref_meant (thing_found (scenery_of es) a.player t)

abbrev pub found_by_text : (Actor → List Entry → List ℕ → Dbref) → Finding
found_by_text find a es (text t ∷ []) = seen (find a es t)
found_by_text find a es items = Err BadType

-- Two objects: what the owner of the first controls.

abbrev pub control_tested : Finding
control_tested a es (object e ∷ object d ∷ []) = Ok (truth_item (controls_as es (level_at es (owner_at es (object_numbered d))) (owner_at es (object_numbered d)) (object_numbered e)))
control_tested a es items = Err BadType

-- Locks.

-- the lock that the player of the actor means by a text
abbrev pub lock_read : Result Lock ℕ → Result Datum MufFault
lock_read (Ok l) = Ok (lock l)
lock_read (Err at) = Err BadArgument

abbrev pub lock_parsed : Finding
lock_parsed a es (text t ∷ []) = lock_read (lock_of (keys_in es a.player) t)
lock_parsed a es items = Err BadType

abbrev pub unparsed : Finding
unparsed a es (lock l ∷ []) = if nat_lt text_most (length (lock_printed l)) then Err TextTooLong else Ok (text (lock_printed l))
unparsed a es items = Err BadType

abbrev pub lock_tested : Finding
lock_tested a es (lock l ∷ object d ∷ []) = Ok (truth_item (opens_for (holdings_of es) l (object_numbered d)))
lock_tested a es items = Err BadType

-- Flags.

-- the flag of a letter, in any case
abbrev pub flag_bit_lettered : ℕ → Option ℕ
flag_bit_lettered letter =
    if list_any (λ other. other == to_ascii_uppercase letter) (codes "ABCDHJKLQSVWXZ") then Some (flag_of (to_ascii_uppercase letter)) else None

-- one letter, and whether it is set: with a `!` before it, whether it isn't
abbrev pub flag_asked : List ℕ → Option (Bool × ℕ)
flag_asked (letter ∷ []) = option_map (λ flag. (true, flag)) (flag_bit_lettered letter)
flag_asked (sign ∷ letter ∷ []) = if sign == 33 then option_map (λ flag. (false, flag)) (flag_bit_lettered letter) else None
flag_asked letters = None

abbrev pub flag_found : List Entry → Dbref → Option (Bool × ℕ) → Result Datum MufFault
flag_found es d (Some asked) = Ok (truth_item (if asked.0 then flag_at asked.1 es d else not (flag_at asked.1 es d)))
flag_found es d None = Err BadArgument

abbrev pub flagged : Finding
flagged a es (text t ∷ object d ∷ []) = flag_found es (object_numbered d) (flag_asked t)
flagged a es items = Err BadType

-- no flag is asked for
abbrev pub misflagged : List Datum → Option MufFault
misflagged (text t ∷ items) = option_map_or (λ asked. None) (flag_asked t) (Some BadArgument)
misflagged items = None

-- No item: one above the highest number.

abbrev pub top : Finding
top a es items = Ok (object (pos (length es)))

-- Each of them.

-- what is found by a primitive that changes nothing
abbrev pub finding_of : Primitive → Option Finding
finding_of Name = Some (one_object (found_of Name))
finding_of Owner = Some (one_object (found_of Owner))
finding_of Location = Some (one_object (found_of Location))
finding_of Contents = Some (one_object (found_of Contents))
finding_of Exits = Some (one_object (found_of Exits))
finding_of Next = Some (one_object (found_of Next))
finding_of IsOk = Some (one_item (kind_asked IsOk))
finding_of IsPlayer = Some (one_item (kind_asked IsPlayer))
finding_of IsThing = Some (one_item (kind_asked IsThing))
finding_of IsRoom = Some (one_item (kind_asked IsRoom))
finding_of IsExit = Some (one_item (kind_asked IsExit))
finding_of IsProgram = Some (one_item (kind_asked IsProgram))
finding_of Match = Some (found_by_text (found_by Match))
finding_of PMatch = Some (found_by_text (found_by PMatch))
finding_of HasFlag = Some flagged
finding_of MLevel = Some (one_object (found_of MLevel))
finding_of GetLink = Some (one_object (found_of GetLink))
finding_of Controls = Some control_tested
finding_of GetLockStr = Some (one_object (found_of GetLockStr))
finding_of ParseLock = Some lock_parsed
finding_of UnparseLock = Some unparsed
finding_of TestLock = Some lock_tested
finding_of UnparseObj = Some (one_object (found_of UnparseObj))
finding_of DbTop = Some top
finding_of p = None

-- the rule for its arguments
abbrev pub misasked : Primitive → List Datum → Option MufFault
misasked HasFlag items = misflagged items
misasked p items = None

abbrev pub given : Live → Result Datum MufFault → WorldAnswer
given w (Ok item) = gives (item ∷ []) w
given w (Err f) = refuses f

-- it gives what it finds
abbrev pub finds : Primitive → Finding → WorldDoing
finds p find = record {
  argued = λ a items w. misasked p items;
  does = λ a items w. given w (find a w.objects items);
}

-- the row of a primitive, where there is one: it finds something, or changes objects
abbrev pub object_row : Primitive → Option WorldDoing
object_row p = option_or (option_map (finds p) (finding_of p)) (writing_row p)

abbrev pub is_object_family : Family → Bool
is_object_family kind.Object = true
is_object_family family = false

abbrev pub is_object : Primitive → Bool
is_object p = is_object_family (family_of p)
