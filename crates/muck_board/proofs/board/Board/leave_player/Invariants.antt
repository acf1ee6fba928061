use Rattle.std.proofs.Common.{◌≡◌, ◌++◌, take, drop}
use Rattle.std.specs.Prelude.{map}
use Rattle.spec_live.specs.Connections.{left_where, is_connection_of}
use Rattle.muck_board.proofs.board.Board.leave_player.Given as goal

abbrev pub invariant-loop-c : goal.invariant-loop-c
invariant-loop-c l = l.c-items ≡ map (left_where (is_connection_of l.player)) (take l.c-index l.initial.c-items) ++ drop l.c-index l.initial.c-items
