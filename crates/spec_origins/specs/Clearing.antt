-- What is gone is nobody's trigger, and nobody edits it.
use Rattle.std.specs.Prelude.{◌≡◌, false}
use Rattle.muck_model.specs.declared.dbref.Dbref.{Dbref}
use Rattle.spec_live.specs.Connections.{edits}
use Rattle.muck_queue.specs.Queues.{has_trigger}
use Rattle.spec_events.specs.World.{World}
use Rattle.spec_events.specs.Sourced.{Each}

-- no process was started by it, and no editor is open on it
pub record IsCleared (d : Dbref) (w : World) : Type 0 where
  pub triggers : Each (λ p. has_trigger d p ≡ false) w.queue.processes
  pub editors : Each (λ c. edits d c ≡ false) w.live.board.connections
