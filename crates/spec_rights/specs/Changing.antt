-- The changes of objects that an act is leave for, by the numbers that are written. What isn't there doesn't change.
use Rattle.std.specs.Prelude.{ℕ, Bool, ◌==◌, if◌then◌else◌, List, [], ◌∷◌, Option, Some}
use Rattle.std.specs.List.{list_any}
use Rattle.std.specs.Option.{option_map_or}
use Rattle.muck_model.specs.declared.dbref.Dbref.{Dbref}
use Rattle.muck_model.specs.declared.dbref.Flags.{Flags}
use Rattle.muck_model.specs.declared.dbref.Kind.{Kind}
use Rattle.muck_model.specs.declared.tune.Tune.{Tune}
use Rattle.muck_prop.specs.declared.value.PropValue.{PropValue}
use Rattle.spec_live.specs.declared.object.Object.{Object}
use Rattle.spec_live.specs.Flags.{with_flag, without_flag}
use Rattle.spec_live.specs.Objects.{Entry, number_in}
use Rattle.spec_live.specs.Moving.{moved}
use Rattle.spec_live.specs.Making.{created}
use Rattle.spec_live.specs.Setting.{set_at, lines_set, with_name, with_owner, with_link, with_home, with_flags, with_level, with_password, with_prop, without_prop}
use Rattle.spec_live.specs.Recycling.{recycled}
use Rattle.spec_live.specs.Connections.{is_connection_of, left}
use Rattle.spec_live.specs.Boards.{Board, on_connections}
use Rattle.spec_live.specs.Lives.{Change, on_objects, on_board}

-- a change of what stands at a number, where an object is there
abbrev pub at_number : (ℕ → List Entry → List Entry) → Dbref → List Entry → List Entry
at_number f x es = option_map_or (λ n. f n es) (number_in es x) es

abbrev pub set_object : (Object → Object) → Dbref → Change
set_object f x = on_objects (at_number (set_at f) x)

unfoldable pub name_given : Dbref → List ℕ → Change
name_given x name = set_object (with_name name) x

unfoldable pub object_owned_by : Dbref → Dbref → Change
object_owned_by x owner = set_object (with_owner owner) x

unfoldable pub linked : Dbref → Dbref → Change
linked x to = set_object (with_link to) x

unfoldable pub homed : Dbref → Dbref → Change
homed x to = set_object (with_home to) x

unfoldable pub flagged : Dbref → Flags → Change
flagged x flags = set_object (with_flags flags) x

-- the values of the bits of flags
abbrev pub flag_values : List ℕ
flag_values = 1 ∷ 2 ∷ 4 ∷ 8 ∷ 16 ∷ 32 ∷ 64 ∷ 128 ∷ 256 ∷ 512 ∷ 1024 ∷ 2048 ∷ 4096 ∷ 8192 ∷ []

-- one flag
abbrev pub is_flag : Flags → Bool
is_flag flag = list_any (λ value. value == flag.0) flag_values

unfoldable pub flag_set : Dbref → Flags → Change
flag_set x flag = set_object (λ o. with_flags (with_flag flag.0 o.flags) o) x

unfoldable pub flag_cleared : Dbref → Flags → Change
flag_cleared x flag = set_object (λ o. with_flags (without_flag flag.0 o.flags) o) x

unfoldable pub leveled : Dbref → ℕ → Change
leveled x level = set_object (with_level level) x

unfoldable pub password_kept : Dbref → ℕ → List ℕ → Change
password_kept x salt word = set_object (with_password salt word) x

unfoldable pub property_stored : Dbref → List (List ℕ) → PropValue → Change
property_stored x path value = set_object (with_prop path value) x

unfoldable pub unstored : Dbref → List (List ℕ) → Change
unstored x path = set_object (without_prop path) x

unfoldable pub lines_kept : Dbref → List (List ℕ) → Change
lines_kept x lines = on_objects (at_number (lines_set lines) x)

abbrev pub moved_at : Option ℕ → Option ℕ → List Entry → List Entry
moved_at (Some d) (Some to) es = moved d to es
moved_at d to es = es

-- x goes to the front of a list of `to`
unfoldable pub moved_to : Dbref → Dbref → Change
moved_to x to w = on_objects (moved_at (number_in w.objects x) (number_in w.objects to)) w

unfoldable pub recycled_now : Dbref → Change
recycled_now x = on_objects (at_number recycled x)

-- an object is made at the number n in the place of the number `to`, with a field set at once
unfoldable pub created_so : ℕ → Kind → List ℕ → Dbref → ℕ → (Object → Object) → Change
created_so n kind name owner to f = on_objects (λ es. set_at f n (created n kind name owner to es))

-- The board.

-- the connections of a player leave
unfoldable pub connections_left : Dbref → Change
connections_left player = on_board (on_connections (λ c. if is_connection_of player c then left c else c))

abbrev pub with_tune : Tune → Board → Board
with_tune tune b = record b { tune = tune }

unfoldable pub tuned : Tune → Change
tuned tune = on_board (with_tune tune)
