-- Setting a field of an object.
use Rattle.std.specs.Prelude.{◌≡◌, ◌⊎◌, ℕ, nat_lt, Bool, true, false, not, ◌&&◌, ◌||◌, if◌then◌else◌, List, Option, Some, Result, Ok, Err, MatchResult}
use Rattle.std.specs.Option.{option_map_or}
use Rattle.std.specs.List.{list_any}
use Rattle.std.specs.FinMap.{remove}
use Rattle.muck_model.specs.declared.dbref.Dbref.{Dbref}
use Rattle.muck_model.specs.declared.dbref.Flags.{Flags}
use Rattle.muck_model.specs.declared.dbref.Kind.{Kind}
use Rattle.muck_model.specs.declared.dbref.Kind.TheVariants.{Room, Thing, Exit, Player, Program}
use Rattle.muck_prop.specs.declared.value.PropValue.{PropValue}
use Rattle.muck_prop.specs.Store.{value_stored}
use Rattle.spec_live.specs.declared.object.Object.{Object}
use Rattle.spec_live.specs.declared.mark.Mark.{Mark}
use Rattle.spec_live.specs.declared.saving.Saving.TheVariants.{Due}
use Rattle.spec_live.specs.declared.mark.Mark.TheVariants.{Lines, Gone}
use Rattle.spec_live.specs.declared.fault.DbFault.{DbFault}
use Rattle.spec_live.specs.declared.fault.DbFault.TheVariants.{NoSuchObject, WrongKind, NoMemory}
use Rattle.spec_live.specs.Flags.{has_flag, vehicle}
use Rattle.spec_live.specs.Password.{digest_of, salt_bytes}
use Rattle.spec_live.specs.Objects.{Entry, nothing, home, same, is_room, is_thing, is_exit, is_player, is_program, kind_in, is_vehicle_in, list_in, number_in, changed_at, on_object}

-- the number of an object for which the test holds, or the first refusal
unfoldable pub checked : (ℕ → Bool) → Dbref → List Entry → Result ℕ DbFault
checked test d es = option_map_or (λ n. if test n then Ok n else Err WrongKind) (number_in es d) (Err NoSuchObject)

-- the number of an object for which the test holds with another one that has to be there too
unfoldable pub checked_both : (ℕ → ℕ → Bool) → Dbref → Dbref → List Entry → Result ℕ DbFault
checked_both test d to es =
    option_map_or (λ n. option_map_or (λ t. if test n t then Ok n else Err WrongKind) (number_in es to) (Err NoSuchObject)) (number_in es d) (Err NoSuchObject)

abbrev pub set_at : (Object → Object) → ℕ → List Entry → List Entry
set_at f n es = changed_at n (on_object f) es

-- what a call does that may want memory: its change, or nothing
abbrev pub Tries : (ℕ → List Entry → List Entry) → Result ℕ DbFault → List Entry → List Entry → Result (Unit {0}) DbFault → Type 0
Tries change (Ok n) old new result = MatchResult result (λ u. new ≡ change n old) (λ fault. (fault ≡ NoMemory) × (new ≡ old))
Tries change (Err fault) old new result = MatchResult result (λ u. ⊥) (λ found. ((found ≡ fault) ⊎ (found ≡ NoMemory)) × (new ≡ old))

-- The name, which is free.

abbrev pub every_number : ℕ → Bool
every_number n = true

abbrev pub with_name : List ℕ → Object → Object
with_name name o = record o { name = name }

-- The owner: a player, and not of a player.

unfoldable pub owner_check : Dbref → Dbref → List Entry → Result ℕ DbFault
owner_check d owner es = checked_both (λ n p. not (is_player (kind_in es n)) && is_player (kind_in es p)) d owner es

abbrev pub with_owner : Dbref → Object → Object
with_owner owner o = record o { owner = owner }

-- The link: that of an exit is a room, a program or home, that of a room is a room, and each may be nothing.

abbrev pub has_link : Kind → Bool
has_link kind = is_exit kind || is_room kind

abbrev pub may_link : Kind → Kind → Bool
may_link Exit Room = true
may_link Exit Program = true
may_link Room Room = true
may_link kind to = false

unfoldable pub link_check : Dbref → Dbref → List Entry → Result ℕ DbFault
link_check d to es =
    if same to nothing then checked (λ n. has_link (kind_in es n)) d es else
    (if same to home then checked (λ n. is_exit (kind_in es n)) d es else
    checked_both (λ n t. may_link (kind_in es n) (kind_in es t)) d to es)

abbrev pub with_link : Dbref → Object → Object
with_link to o = record o { link = to }

-- The home: that of a thing is a room, a thing or a player, that of a player is a room or a thing.

abbrev pub may_live : Kind → Kind → Bool
may_live Thing Room = true
may_live Thing Thing = true
may_live Thing Player = true
may_live Player Room = true
may_live Player Thing = true
may_live kind to = false

unfoldable pub home_check : Dbref → Dbref → List Entry → Result ℕ DbFault
home_check d to es = checked_both (λ n t. may_live (kind_in es n) (kind_in es t)) d to es

abbrev pub with_home : Dbref → Object → Object
with_home to o = record o { home = to }

-- The flags: V stays on a thing as long as a player is in it.

unfoldable pub holds_player : List Entry → ℕ → Bool
holds_player es n = list_any (λ x. is_player (kind_in es x)) (list_in false es n)

unfoldable pub keeps_seats : List Entry → Flags → ℕ → Bool
keeps_seats es flags n = not (is_thing (kind_in es n) && is_vehicle_in es n && not (has_flag vehicle flags) && holds_player es n)

unfoldable pub flags_check : Dbref → Flags → List Entry → Result ℕ DbFault
flags_check d flags es = checked (keeps_seats es flags) d es

abbrev pub with_flags : Flags → Object → Object
with_flags flags o = record o { flags = flags }

-- The level, at most 3, of a program or a player.

unfoldable pub level_check : Dbref → ℕ → List Entry → Result ℕ DbFault
level_check d level es = checked (λ n. (is_program (kind_in es n) || is_player (kind_in es n)) && nat_lt level 4) d es

abbrev pub with_level : ℕ → Object → Object
with_level level o = record o { level = level }

-- The source of a program, after which it is marked, unless it is garbage that nobody was told of.

unfoldable pub lines_check : Dbref → List Entry → Result ℕ DbFault
lines_check d es = checked (λ n. is_program (kind_in es n)) d es

abbrev pub lines_marked : Option Mark → Option Mark
lines_marked (Some Gone) = Some Gone
lines_marked mark = Some Lines

abbrev pub with_lines : List (List ℕ) → Entry → Entry
with_lines lines e = record e { object = record e.object { lines = lines }; mark = lines_marked e.mark; saving = Due }

abbrev pub lines_set : List (List ℕ) → ℕ → List Entry → List Entry
lines_set lines n es = changed_at n (with_lines lines) es

-- The password of a player.

unfoldable pub password_check : Dbref → List Entry → Result ℕ DbFault
password_check d es = checked (λ n. is_player (kind_in es n)) d es

abbrev pub with_password : ℕ → List ℕ → Object → Object
with_password salt word o = record o { digest = digest_of (salt_bytes salt) word }

-- Properties.

abbrev pub with_prop : List (List ℕ) → PropValue → Object → Object
with_prop path value o = record o { props = value_stored path value o.props }

abbrev pub without_prop : List (List ℕ) → Object → Object
without_prop path o = record o { props = remove o.props path }
