-- The objects of the world, by their numbers from 0 on, each with the lists of what it holds.
use Rattle.std.specs.Prelude.{ℕ, Bool, true, false, if◌then◌else◌, List, [], length, Option, Some, None, slice_get, slice_set, codes}
use Rattle.std.specs.Option.{option_map, option_and_then, option_map_or}
use Rattle.std.specs.FinMap as map
use Rattle.muck_model.specs.declared.dbref.Dbref.{Dbref}
use Rattle.muck_model.specs.declared.dbref.Flags.{Flags}
use Rattle.muck_model.specs.declared.dbref.Kind.{Kind}
use Rattle.muck_model.specs.declared.dbref.Kind.TheVariants.{Room, Thing, Exit, Player, Program, Garbage}
pub use Rattle.muck_model.specs.Dbrefs.{dbref_of, nothing, home, same, index_at, index_of}
pub use Rattle.muck_model.specs.Kinds.{is_room, is_thing, is_exit, is_player, is_program, is_garbage}
use Rattle.spec_live.specs.declared.object.Object.{Object}
use Rattle.spec_live.specs.declared.mark.Mark.{Mark}
use Rattle.spec_live.specs.declared.saving.Saving.{Saving}
use Rattle.spec_live.specs.declared.saving.Saving.TheVariants.{Due}
use Rattle.spec_live.specs.Flags.{has_flag, no_flags, vehicle}
use Rattle.spec_live.specs.Chain.{walk}

-- An object with its contents and its exits, the newest first, what is to be told of it, how it stands to the dumps, and where it stood when the event began,
-- where it was a player then.
pub record Entry : Type 0 where
  pub object : Object
  pub contents : List ℕ
  pub exits : List ℕ
  pub mark : Option Mark
  pub saving : Saving
  pub stood : Option Dbref

-- what may be in a room; in a thing, on which players may sit where it is a vehicle; and in a player
abbrev pub may_stand : Kind → Kind → Bool → Bool
may_stand Room Room seats = true
may_stand Thing Room seats = true
may_stand Thing Thing seats = true
may_stand Thing Player seats = true
may_stand Program Room seats = true
may_stand Program Thing seats = true
may_stand Program Player seats = true
may_stand Player Room seats = true
may_stand Player Thing seats = seats
may_stand Exit Room seats = true
may_stand Exit Thing seats = true
may_stand Exit Player seats = true
may_stand kind place seats = false

-- Readers, by number. What isn't there is garbage.

unfoldable pub object_in : List Entry → ℕ → Option Object
object_in es k = option_map (λ e. e.object) (slice_get es k)

abbrev pub entry_list : Bool → Entry → List ℕ
entry_list exits e = if exits then e.exits else e.contents

-- the list of exits, or of contents, of an object
unfoldable pub list_in : Bool → List Entry → ℕ → List ℕ
list_in exits es k = option_map_or (entry_list exits) (slice_get es k) []

unfoldable pub mark_in : List Entry → ℕ → Option Mark
mark_in es k = option_and_then (λ e. e.mark) (slice_get es k)

unfoldable pub kind_in : List Entry → ℕ → Kind
kind_in es k = option_map_or (λ o. o.kind) (object_in es k) Garbage

unfoldable pub flags_in : List Entry → ℕ → Flags
flags_in es k = option_map_or (λ o. o.flags) (object_in es k) no_flags

unfoldable pub place_in : List Entry → ℕ → Option ℕ
place_in es k = option_and_then (λ o. index_of o.place) (object_in es k)

unfoldable pub owner_in : List Entry → ℕ → Option ℕ
owner_in es k = option_and_then (λ o. index_of o.owner) (object_in es k)

unfoldable pub home_in : List Entry → ℕ → Option ℕ
home_in es k = option_and_then (λ o. index_of o.home) (object_in es k)

unfoldable pub is_vehicle_in : List Entry → ℕ → Bool
is_vehicle_in es k = has_flag vehicle (flags_in es k)

-- d may be in p
unfoldable pub fits_in : List Entry → ℕ → ℕ → Bool
fits_in es d p = may_stand (kind_in es d) (kind_in es p) (is_vehicle_in es p)

-- the number itself, its place, the place of that, and so on
unfoldable pub places_from : List Entry → ℕ → List ℕ
places_from es k = walk (length es) (place_in es) (Some k)

-- Readers, by dbref.

-- the number behind a dbref, where an object is there
unfoldable pub number_in : List Entry → Dbref → Option ℕ
number_in es d = option_and_then (λ n. if is_garbage (kind_in es n) then None else Some n) (index_of d)

unfoldable pub object_at : Dbref → List Entry → Option Object
object_at d es = option_and_then (object_in es) (number_in es d)

-- Changes. An object whose fields change is due for the next dump.

-- the list with f done at one place of it
unfoldable pub changed_at : {X : Type 0} → ℕ → (X → X) → List X → List X
changed_at n f xs = option_map_or (λ x. slice_set xs n (f x)) (slice_get xs n) xs

abbrev pub due : Entry → Entry
due e = record e { saving = Due }

abbrev pub with_object : Object → Entry → Entry
with_object o e = record e { object = o; saving = Due }

-- with the object changed by f
abbrev pub on_object : (Object → Object) → Entry → Entry
on_object f e = record e { object = f e.object; saving = Due }

-- an object that has a kind, a name and an owner, and nothing else
abbrev pub bare_object : Kind → List ℕ → Dbref → Object
bare_object kind name owner = record {
  kind = kind;
  name = name;
  owner = owner;
  place = nothing;
  link = nothing;
  home = nothing;
  flags = no_flags;
  level = 0;
  props = map.empty;
  lines = [];
  digest = [];
}

-- What is left of an object that was recycled: `#1` owns it.
unfoldable pub garbage : Object
garbage = bare_object Garbage (codes "<garbage>") (dbref_of 1)
