-- Levels, and whose objects are whose.
use Rattle.std.specs.Prelude.{ℕ, min, Bool, false, not, ◌&&◌, ◌||◌, nat_lt, nat_le, if◌then◌else◌, List, [], ◌∷◌, unwrap_or}
use Rattle.std.specs.Option.{option_map_or}
use Rattle.muck_model.specs.declared.dbref.Dbref.{Dbref}
use Rattle.spec_live.specs.declared.object.Object.{Object}
use Rattle.spec_live.specs.Flags.{has_flag, wizard, quell, setuid, haven}
use Rattle.spec_live.specs.Objects.{Entry, nothing, same, is_player, index_of, object_at}
use Rattle.spec_live.specs.Seen.{long_form}
use Rattle.spec_live.specs.Lives.{Live}

-- the highest level
abbrev pub master : ℕ
master = 4

-- a wizard is at the highest level, unless Q takes that from it
abbrev pub level_of : Object → ℕ
level_of o = if has_flag wizard o.flags && not (has_flag quell o.flags) then master else o.level

-- the level of an object, 0 where it isn't there
unfoldable pub level_at : List Entry → Dbref → ℕ
level_at es d = option_map_or level_of (object_at d es) 0

-- the owner of an object, nobody where it isn't there
unfoldable pub owner_at : List Entry → Dbref → Dbref
owner_at es d = option_map_or (λ o. o.owner) (object_at d es) nothing

-- an object that is there and has the flag
unfoldable pub flag_at : ℕ → List Entry → Dbref → Bool
flag_at flag es d = option_map_or (λ o. has_flag flag o.flags) (object_at d es) false

unfoldable pub is_player_at : List Entry → Dbref → Bool
is_player_at es d = option_map_or (λ o. is_player o.kind) (object_at d es) false

-- the user owns the object; a player owns itself
unfoldable pub owns : List Entry → Dbref → Dbref → Bool
owns es user d = option_map_or (λ o. same o.owner user || (is_player o.kind && same d user)) (object_at d es) false

-- who is at the highest level controls all that is there, and others what they own
unfoldable pub controls_as : List Entry → ℕ → Dbref → Dbref → Bool
controls_as es level user d = nat_le master level || owns es user d

-- A command acts at the highest level where its player is there, and else at level 1.
unfoldable pub command_level : List Entry → Dbref → ℕ
command_level es player = if nat_le master (level_at es player) then master else 1

-- the number that is written behind a name
abbrev pub dbref_number : Dbref → ℕ
dbref_number d = unwrap_or (index_of d) 0

abbrev pub shown_as : List Entry → Dbref → Dbref → Object → List ℕ
shown_as es player d o = if controls_as es (command_level es player) player d then long_form (dbref_number d) o else o.name

-- the name of an object as a player sees it: the long form where it controls the object
unfoldable pub name_shown : Dbref → Dbref → Live → List ℕ
name_shown player d w = option_map_or (shown_as w.objects player d) (object_at d w.objects) []

-- Programs.

-- the lesser of the program's own level and its owner's
unfoldable pub effective : List Entry → Dbref → ℕ
effective es program = min (level_at es program) (level_at es (owner_at es program))

-- a program with S and H that a wizard owns has the level and the user of the program that called it
unfoldable pub inherits : List Entry → Dbref → Bool
inherits es program = flag_at setuid es program && (flag_at haven es program && nat_le master (level_at es (owner_at es program)))

-- the level of a running program, whose callers are these, the nearest first
unfoldable pub level : List Entry → Dbref → List Dbref → ℕ
level es program [] = effective es program
level es program (caller ∷ callers) = if inherits es program then level es caller callers else effective es program

-- the user of a program by its own flags
unfoldable pub own_user : List Entry → Dbref → Dbref → Dbref → Dbref
own_user es player trigger program =
    if flag_at setuid es program || nat_lt (effective es program) 2 then owner_at es program else
    (if flag_at haven es program && not (same trigger nothing) then owner_at es trigger else player)

-- the user of a running program that this player runs by this trigger
unfoldable pub user : List Entry → Dbref → Dbref → Dbref → List Dbref → Dbref
user es player trigger program [] = own_user es player trigger program
user es player trigger program (caller ∷ callers) = if inherits es program then user es player trigger caller callers else own_user es player trigger program
