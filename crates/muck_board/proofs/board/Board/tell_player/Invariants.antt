use Rattle.spec_live.specs.Connections.{is_connection_of}
use Rattle.muck_board.proofs.board.Board.tell_player.Given as goal

abbrev pub ghost-tell_where : goal.ghost-tell_where
ghost-tell_where a = is_connection_of a.hears.0
