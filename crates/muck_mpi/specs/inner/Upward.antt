-- An object and its places upward.
use Rattle.std.specs.Prelude.{List, [], ◌∷◌, Option, Some, None}
use Rattle.muck_model.specs.declared.dbref.Dbref.{Dbref}
use Rattle.spec_live.specs.Objects.{Entry}
use Rattle.spec_live.specs.Seen.{places_of}

-- from an object on, where there is one
abbrev pub upward_from : List Entry → Option Dbref → List Dbref
upward_from es None = []
upward_from es (Some d) = d ∷ places_of es d
