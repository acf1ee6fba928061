-- What formulas do to the world.
use Rattle.std.specs.Prelude.{ℕ, List, Option, Some, None}
use Rattle.std.specs.Option.{option_map_or}
use Rattle.muck_model.specs.declared.dbref.Dbref.{Dbref}
use Rattle.muck_prop.specs.declared.value.PropValue.TheVariants.{Text}
use Rattle.spec_live.specs.Objects.{object_at}
use Rattle.spec_live.specs.Lives.{Change, tell_player, tell_others, place_at, random_word, draw}
use Rattle.spec_rights.specs.declared.act.Act.TheVariants.{Write}
use Rattle.spec_rights.specs.Changing.{property_stored, unstored}
use Rattle.mpi.specs.declared.fault.MpiFault.{MpiFault}
use Rattle.mpi.specs.declared.fault.MpiFault.TheVariants.{BadValue}
use Rattle.mpi.specs.declared.host.Deed.{Deed}
use Rattle.mpi.specs.declared.host.Deed.TheVariants as deed
use Rattle.mpi.specs.Hosting.{Powers}
use Rattle.spec_mpi.specs.Stages.{MpiStage}
use Rattle.spec_mpi.specs.Telling.{at_written_path, mpi_by_leave, finds_in, tells_in}

-- the fault, if there is one, and what stands then
abbrev pub Done : Type 0
Done = Option MpiFault × MpiStage

abbrev pub stage_refused : MpiStage → MpiFault → Done
stage_refused s fault = (Some fault, s)

abbrev pub stage_changed : Change → MpiStage → Done
stage_changed f s = (None, record s { live = f s.live })

-- an object that is there is written, at the path that a text writes, by leave
unfoldable pub path_written : Dbref → List ℕ → (List (List ℕ) → Change) → MpiStage → Done
path_written d path f s =
    option_map_or (λ o. at_written_path (stage_refused s) (λ p. mpi_by_leave (stage_refused s) s.live.objects s.actor (Write d p) (stage_changed (f p) s)) path) (object_at d s.live.objects) (stage_refused s BadValue)

-- a text is told to all connections of a player, or to all others in a room
abbrev pub does_in : Deed → MpiStage → Done
does_in (deed.Store text path d) s = path_written d path (λ p. property_stored d p (Text text)) s
does_in (deed.DelProp path d) s = path_written d path (λ p. unstored d p) s
does_in (deed.Tell text d) s = stage_changed (tell_player d text) s
does_in (deed.Otell text d) s = stage_changed (tell_others d s.actor.player text) s

abbrev pub draws_in : MpiStage → ℕ × MpiStage
draws_in s = (random_word s.live, record s { live = draw s.live })

-- all that a formula is able to do, for whoever acts
abbrev pub powers : Powers MpiStage
powers = record {
  player = λ s. s.actor.player;
  place = λ s. place_at s.actor.player s.live;
  most = λ s. s.live.board.tune.mpi_commands;
  finds = finds_in;
  tells = tells_in;
  does = does_in;
  draws = draws_in;
}
