-- What is so of each command is so of each line that is done.
use Rattle.std.proofs.Common.{ℕ, ℤ, List, [], ◌∷◌, Option, Some, None}
use Rattle.muck_model.specs.declared.dbref.Dbref.{Dbref}
use Rattle.muck_model.specs.declared.edit.EditState.{EditState}
use Rattle.spec_live.specs.Connections.{Connection}
use Rattle.spec_commands.specs.Talk.{waits}
use Rattle.muck_queue.specs.Queues.{reader}
use Rattle.spec_events.specs.World.{World, connection, on_live}
use Rattle.spec_events.specs.Lines.{in_world, line_for, line_done, first_line_done}
use Rattle.spec_denials.specs.Commands.{OfCommand, OfSeat, OfLine}

module _ (P : Dbref → List ℕ → World → World → Type 0) (d : ℕ) (so : (player : Dbref) (line : List ℕ) (w : World) → P player line w (in_world d player line w)) where
  abbrev At : Option ℤ → Option Dbref → Option EditState → List (List ℕ) → World → World → Type 0
  At None player editor lines w v = OfCommand P player editor d lines w v
  At (Some pid) player editor lines w v = Unit {0}

  for_so : (pid : Option ℤ) (player : Option Dbref) (editor : Option EditState) (line : List ℕ) (lines : List (List ℕ)) (w : World) →
      At pid player editor (line ∷ lines) w (line_for pid player editor d line (on_live (waits d lines) w))
  for_so (Some pid) player editor line lines w = tt
  for_so None None editor line lines w = tt
  for_so None (Some player) (Some s) line lines w = tt
  for_so None (Some player) None line lines w = so player line (on_live (waits d lines) w)

  none_so : (pid : Option ℤ) (player : Option Dbref) (editor : Option EditState) (w v : World) → At pid player editor [] w v
  none_so (Some pid) player editor w v = tt
  none_so None None editor w v = tt
  none_so None (Some player) None w v = tt
  none_so None (Some player) (Some s) w v = tt

  lines_so : (player : Option Dbref) (editor : Option EditState) (lines : List (List ℕ)) (w : World) → At (reader d w.queue) player editor lines w (line_done d player editor lines w)
  lines_so player editor [] w = none_so (reader d w.queue) player editor w w
  lines_so player editor (line ∷ lines) w = for_so (reader d w.queue) player editor line lines w

  seat_so : (pid : Option ℤ) (c : Connection) (w v : World) → At pid c.player c.editor c.waiting w v → OfSeat P pid (Some c) d w v
  seat_so None c w v h = h
  seat_so (Some pid) c w v h = tt

  nobody_so : (pid : Option ℤ) (w v : World) → OfSeat P pid None d w v
  nobody_so None w v = tt
  nobody_so (Some pid) w v = tt

  pub line_so : (w : World) → OfLine P d w (first_line_done d (connection d w) w)
  unfolding first_line_done
  line_so w = at (connection d w)
    where
      at : (o : Option Connection) → OfSeat P (reader d w.queue) o d w (first_line_done d o w)
      at None = nobody_so (reader d w.queue) w w
      at (Some c) = seat_so (reader d w.queue) c w (line_done d c.player c.editor c.waiting w) (lines_so c.player c.editor c.waiting w)
