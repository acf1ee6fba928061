-- A scene in memory: objects by number, with the first of each list and what stands behind each object.
use Rattle.std.specs.Prelude.{ℕ, zero, suc, nat_lt, Bool, true, false, if◌then◌else◌, List, [], ◌∷◌, length, Option, Some, None, is_some, slice_get, unwrap_or}
use Rattle.std.specs.Option.{option_map, option_map_or, option_and_then}
use Rattle.muck_model.specs.declared.dbref.Dbref.{Dbref}
use Rattle.muck_model.specs.Dbrefs.{index_of}
use Rattle.muck_model.specs.Kinds.{is_garbage}
use Rattle.muck_match.specs.Scenery.{Sight, Scenery, nothing, is_nothing, chain}
use Rattle.muck_match.specs.declared.memory.MemObject.{MemObject}

-- how many numbers are lower
abbrev pub height : Dbref → ℕ
height d = unwrap_or (index_of d) 0

-- the number, where it is lower than that of this object
unfoldable pub lower : Dbref → Dbref → Dbref
lower of d = option_map_or (λ n. if nat_lt n (height of) then d else nothing) (index_of d) nothing

abbrev pub alive : MemObject → Option MemObject
alive object = option_of (is_garbage object.kind) object
  where
    option_of : Bool → MemObject → Option MemObject
    option_of true o = None
    option_of false o = Some o

unfoldable pub slot_at : List MemObject → Dbref → Option MemObject
slot_at objects d = option_and_then (λ n. slice_get objects n) (index_of d)

-- the object of that number that isn't garbage
unfoldable pub object_at : List MemObject → Dbref → Option MemObject
object_at objects d = option_and_then alive (slot_at objects d)

-- a field that leads from an object to another one, which only counts where it leads to a lower number
abbrev pub led : (MemObject → Dbref) → List MemObject → Dbref → Dbref
led field objects d = option_map_or (λ o. lower d (field o)) (object_at objects d) nothing

unfoldable pub next_at : List MemObject → Dbref → Dbref
next_at objects d = led (λ o. o.next) objects d

unfoldable pub above_at : List MemObject → Dbref → Dbref
above_at objects d = let place = led (λ o. o.place) objects d in if is_some (object_at objects place) then place else nothing

-- from one number to the next, until there is none
unfoldable pub walk : (Dbref → Dbref) → ℕ → Dbref → List Dbref
walk f zero d = []
walk f (suc n) d = if is_nothing (f d) then [] else f d ∷ walk f n (f d)

abbrev pub behind : (Dbref → Dbref) → Dbref → List Dbref
behind f d = walk f (height d) d

abbrev pub sight_of : Dbref → MemObject → Sight
sight_of d o = record { kind = o.kind; name = o.name; place = lower d o.place; link = o.link }

unfoldable pub first_at : (MemObject → Dbref) → List MemObject → Dbref → Dbref
first_at field objects d = option_map_or field (object_at objects d) nothing

unfoldable pub after_in : List MemObject → Dbref → List Dbref
after_in objects d = behind (next_at objects) d

unfoldable pub scenery_of : List MemObject → Scenery
scenery_of objects = record {
  sight = λ d. option_map (sight_of d) (object_at objects d);
  contents = λ d. chain (after_in objects) (first_at (λ o. o.first_content) objects d);
  exits = λ d. chain (after_in objects) (first_at (λ o. o.first_exit) objects d);
  places = λ d. behind (above_at objects) d;
  count = length objects;
}
