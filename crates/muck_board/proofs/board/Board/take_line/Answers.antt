use Rattle.muck_board.proofs.Numbered.{line_taken, none_taken}
use Rattle.muck_board.proofs.board.Board.take_line.Goals as goal

pub returns-in_err-line : goal.returns-in_err-line
returns-in_err-line c = rw c.from_residual-in_err-line.ensures (none_taken c.args.d c.args.self.now _ _ c.in_ok-c.ensures.value c.in_err-line.ensures.0 c.in_err-line.ensures.1)

pub returns : goal.returns
returns c = line_taken c.args.d c.args.self.now _ _ _ _ c.in_ok-c.ensures.value c.player-player.ensures c.in_ok-line.ensures.0 c.in_ok-line.ensures.1
