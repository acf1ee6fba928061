-- What the laws of histories keep of a world.
use Rattle.std.specs.Prelude.{◌≡◌, false}
use Rattle.spec_commands.specs.inner.Rising.{IsRising}
use Rattle.muck_model.specs.Parameters.{IsInRange}
use Rattle.spec_events.specs.World.{World}

-- alive, its connections stand by rising number, and what is tuned is in its range
pub record IsSound (w : World) : Type 0 where
  pub alive : w.dead ≡ false
  pub rising : IsRising w.live.board.connections
  pub tuned : IsInRange w.live.board.tune
