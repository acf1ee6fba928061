use Rattle.spec_live.specs.Connections.{has_player}
use Rattle.muck_board.proofs.board.Board.tell_all.Given as goal

abbrev pub ghost-tell_where : goal.ghost-tell_where
ghost-tell_where a = has_player
