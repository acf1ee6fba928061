-- What is looked at in the directory of an object, and the objects upward from one.
use Rattle.std.specs.Prelude.{◌==◌, if◌then◌else◌, List, [], ◌∷◌, length, Option, Some, None}
use Rattle.std.specs.List.{cons_option}
use Rattle.muck_model.specs.declared.dbref.Dbref.{Dbref}
use Rattle.muck_prop.specs.declared.props.Listed.{Listed}
use Rattle.spec_live.specs.Objects.{Entry}
use Rattle.spec_live.specs.Seen.{places_of}
use Rattle.spec_rights.specs.Levels.{is_player_at}
use Rattle.spec_hooks.specs.declared.cause.Cause.{Cause}
use Rattle.spec_hooks.specs.declared.cause.Fire.{Fire}
use Rattle.spec_hooks.specs.Firing.{fired, fired_by}

-- by what stands below a directory, where it stands directly in it
abbrev pub fired_listed : List Entry → Cause → Dbref → Listed → List Fire
fired_listed es cause carrier listed = if length listed.rest == 1 then cons_option (fired es cause carrier listed.value) [] else []

-- an object and its places upward, where there is one
abbrev pub upward_from : List Entry → Option Dbref → List Dbref
upward_from es None = []
upward_from es (Some d) = d ∷ places_of es d

-- by an object that isn't a player
abbrev pub fired_unplayed : List Entry → Cause → Dbref → List Fire
fired_unplayed es cause d = if is_player_at es d then [] else fired_by es cause d
