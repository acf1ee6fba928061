-- What a scene shows: its objects, and the lists that they stand in.
use Rattle.std.specs.Prelude.{ℕ, pos, negsuc, Bool, false, List, [], ◌∷◌, ◌++◌, map, Option, Some, None, is_some, if◌then◌else◌}
use Rattle.std.specs.Option.{option_map_or}
use Rattle.std.specs.List.{filter, flat_map, range_with_len}
use Rattle.std.specs.Ordering.{int_eq}
use Rattle.muck_model.specs.declared.dbref.Dbref.{Dbref}
pub use Rattle.muck_model.specs.Dbrefs.{nothing, home}
pub use Rattle.muck_model.specs.Kinds.{is_thing, is_player, is_program}
use Rattle.muck_model.specs.Numbers.{dbref_numbered}
use Rattle.muck_model.specs.declared.dbref.Kind.{Kind}

-- an object that is there
pub record Sight : Type 0 where
  pub kind : Kind
  pub name : List ℕ
  pub place : Dbref
  pub link : Dbref

-- the objects that are there, the contents and the exits of each, its places upward, and one above the highest number
pub record Scenery : Type 0 where
  pub sight : Dbref → Option Sight
  pub contents : Dbref → List Dbref
  pub exits : Dbref → List Dbref
  pub places : Dbref → List Dbref
  pub count : ℕ

abbrev pub is_nothing : Dbref → Bool
is_nothing d = int_eq d.0 (negsuc 0)

-- a list of contents or of exits, where this is its first object, or `#-1`, and that stands after each
unfoldable pub chain : (Dbref → List Dbref) → Dbref → List Dbref
chain after first = if is_nothing first then [] else first ∷ after first

unfoldable pub is_in_scenery : Scenery → Dbref → Bool
is_in_scenery w d = is_some (w.sight d)

-- the places upward, where this is the place of an object that is there
unfoldable pub upward : Scenery → Option Dbref → List Dbref
upward w None = []
upward w (Some place) = if is_in_scenery w place then place ∷ w.places place else []

-- the object is there and passes the test
abbrev pub sees : (Sight → Bool) → Scenery → Dbref → Bool
sees test w d = option_map_or test (w.sight d) false

-- the place of an object, `#-1` where it isn't there
unfoldable pub place_in_scenery : Scenery → Dbref → Dbref
place_in_scenery w d = option_map_or (λ s. s.place) (w.sight d) nothing

-- the things in an object
unfoldable pub things_in : Scenery → Dbref → List Dbref
things_in w d = filter (sees (λ s. is_thing s.kind) w) (w.contents d)

-- the exits on the place, on carried things, on things in the place, on the player, and on the places upward
unfoldable pub exit_order : Scenery → Dbref → List Dbref
exit_order w player =
    let here = place_in_scenery w player in
    w.exits here ++ (flat_map w.exits (things_in w player) ++ (flat_map w.exits (things_in w here) ++ (w.exits player ++ flat_map w.exits (w.places here))))

-- all numbers of objects, rising
unfoldable pub numbers : Scenery → List Dbref
numbers w = map (λ n. dbref_numbered (pos n)) (range_with_len 0 w.count)
