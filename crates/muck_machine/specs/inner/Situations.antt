-- How a connection stands, seen in one look.
use Rattle.std.specs.Prelude.{ℕ, Bool, false, not, ◌&&◌, [], length, Option, is_some}
use Rattle.std.specs.Option.{option_map_or}
use Rattle.spec_live.specs.Output.{bytes_of}
use Rattle.spec_live.specs.Connections.{Connection, is_ready, takes_line}
use Rattle.spec_events.specs.World.{World, connection}
use Rattle.muck_machine.specs.declared.world.situation.Situation.{Situation}

-- whether it is there or not, and whether the world is stopping or not
abbrev pub situated : Option Connection → Bool → Situation
situated o stopping = record {
  there = is_some o;
  leaving = option_map_or (λ (c : Connection). c.leaving) o false;
  ready = option_map_or is_ready o false;
  hears = option_map_or takes_line o false && not stopping;
  queued = length (option_map_or (λ (c : Connection). bytes_of c.output) o []);
}

-- how the connection d stands in this world
abbrev pub situation_in : ℕ → World → Situation
situation_in d w = situated (connection d w) w.stopping
