-- What is so of each command that a player types.
use Rattle.std.specs.Prelude.{ℕ, ℤ, List, ◌∷◌, Option, Some, None}
use Rattle.muck_model.specs.declared.dbref.Dbref.{Dbref}
use Rattle.muck_model.specs.declared.edit.EditState.{EditState}
use Rattle.spec_live.specs.Connections.{Connection}
use Rattle.spec_commands.specs.Talk.{waits}
use Rattle.muck_queue.specs.Queues.{reader}
use Rattle.spec_events.specs.World.{World, connection, on_live}

-- of a line of a player that is a command, from the world in which it waits no more
abbrev pub OfCommand : (Dbref → List ℕ → World → World → Type 0) → Option Dbref → Option EditState → ℕ → List (List ℕ) → World → World → Type 0
OfCommand P (Some player) None d (line ∷ lines) w v = P player line (on_live (waits d lines) w) v
OfCommand P player editor d lines w v = Unit {0}

abbrev pub OfSeat : (Dbref → List ℕ → World → World → Type 0) → Option ℤ → Option Connection → ℕ → World → World → Type 0
OfSeat P None (Some c) d w v = OfCommand P c.player c.editor d c.waiting w v
OfSeat P pid c d w v = Unit {0}

-- so of the first line that waits on a connection, unless a process reads it
abbrev pub OfLine : (Dbref → List ℕ → World → World → Type 0) → ℕ → World → World → Type 0
OfLine P d w v = OfSeat P (reader d w.queue) (connection d w) d w v
