-- What a search by name looks for.
use Rattle.std.specs.Prelude.{ℕ, Bool, false, ◌&&◌, List}
use Rattle.std.specs.Option.{option_map_or}
use Rattle.muck_model.specs.declared.dbref.Dbref.{Dbref}
use Rattle.spec_live.specs.declared.object.Object.{Object}
use Rattle.spec_live.specs.Objects.{Entry, same, object_at}
use Rattle.spec_commands.specs.Building.{holds_name}

-- the user's, and its name holds the text
abbrev pub is_wanted : Dbref → List ℕ → Object → Bool
is_wanted user part o = same o.owner user && holds_name part o.name

abbrev pub wanted_at : Dbref → List ℕ → Dbref → List Entry → Bool
wanted_at user part x es = option_map_or (is_wanted user part) (object_at x es) false
