-- What matching sees of the objects, and how an object is shown.
use Rattle.std.specs.Prelude.{ℕ, suc, Bool, true, false, List, [], ◌++◌, map, length, codes, decimal, zero}
use Rattle.std.specs.Option.{option_map, option_map_or}
use Rattle.std.specs.List.{filter}
use Rattle.muck_model.specs.declared.dbref.Dbref.{Dbref}
use Rattle.muck_model.specs.declared.dbref.Flags.{Flags}
use Rattle.muck_model.specs.declared.dbref.Kind.{Kind}
use Rattle.muck_model.specs.declared.dbref.Kind.TheVariants.{Room, Exit, Player, Program}
use Rattle.muck_match.specs.Scenery.{Sight, Scenery}
use Rattle.spec_live.specs.declared.object.Object.{Object}
use Rattle.spec_live.specs.Chain.{walk}
use Rattle.spec_live.specs.Flags.{has_flag, flag_of}
use Rattle.spec_live.specs.Objects.{Entry, dbref_of, number_in, object_at, list_in, place_in}

-- the list of contents, or of exits, of an object; that of what isn't there is empty
unfoldable pub listed_in : Bool → Dbref → List Entry → List Dbref
listed_in exits d es = option_map_or (λ n. map dbref_of (list_in exits es n)) (number_in es d) []

abbrev pub sight_of : Object → Sight
sight_of o = record { kind = o.kind; name = o.name; place = o.place; link = o.link }

-- the places upward from an object that is there
unfoldable pub places_of : List Entry → Dbref → List Dbref
places_of es d = option_map_or (λ n. map dbref_of (walk (length es) (place_in es) (place_in es n))) (number_in es d) []

unfoldable pub scenery_of : List Entry → Scenery
scenery_of es = record {
  sight = λ d. option_map sight_of (object_at d es);
  contents = λ d. listed_in false d es;
  exits = λ d. listed_in true d es;
  places = λ d. places_of es d;
  count = length es;
}

-- The long form of an object: its name, `(#N`, its kind, its flags, its level, and `)`.

abbrev pub kind_letter : Kind → List ℕ
kind_letter Room = codes "R"
kind_letter Exit = codes "E"
kind_letter Player = codes "P"
kind_letter Program = codes "F"
kind_letter kind = []

unfoldable pub flag_letters : Flags → List ℕ
flag_letters flags = filter (λ letter. has_flag (flag_of letter) flags) (codes "ABCDHJKLQSVWXZ")

abbrev pub level_letters : ℕ → List ℕ
level_letters zero = []
level_letters (suc n) = codes "M" ++ decimal (suc n)

unfoldable pub long_form : ℕ → Object → List ℕ
long_form n o = o.name ++ (codes "(#" ++ (decimal n ++ (kind_letter o.kind ++ (flag_letters o.flags ++ (level_letters o.level ++ codes ")")))))
