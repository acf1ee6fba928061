-- What a message may touch.
use Rattle.std.specs.Prelude.{◌≡◌, map}
use Rattle.std.specs.FinMap as props
use Rattle.spec_live.specs.declared.saving.Saving.TheVariants.{Due}
use Rattle.spec_live.specs.Objects.{Entry}
use Rattle.spec_live.specs.Stood.{Traced}
use Rattle.spec_live.specs.Output.{no_output}
use Rattle.spec_live.specs.Connections.{Connection}
use Rattle.spec_live.specs.Lives.{Live}

-- an object without its properties, and without how it stands to the dumps
abbrev pub without_props : Entry → Entry
without_props e = record e { object = record e.object { props = props.empty }; saving = Due }

-- a connection without what waits to be sent to it
abbrev pub without_output : Connection → Connection
without_output c = record c { output = no_output }

-- Two worlds differ in properties, in what waits to be sent and in the state of the random numbers alone: each object has its other
-- fields, its lists, what is to be told of it and where it stood, each connection all else, and nothing is tuned. What changed is due for the
-- next dump.
pub record TouchesNotes (w v : Live) : Type 0 where
  pub objects : map without_props v.objects ≡ map without_props w.objects
  pub traced : Traced w.objects v.objects
  pub connections : map without_output v.board.connections ≡ map without_output w.board.connections
  pub tune : v.board.tune ≡ w.board.tune
