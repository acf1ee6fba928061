use Rattle.std.proofs.Common.{◌≡◌, ◌++◌, take, drop}
use Rattle.std.specs.Prelude.{map, None}
use Rattle.spec_live.specs.Connections.{edited_where, edits}
use Rattle.muck_board.proofs.board.Board.close_editors.Given as goal

abbrev pub invariant-loop-c : goal.invariant-loop-c
invariant-loop-c l = l.c-items ≡ map (edited_where (edits l.program) None) (take l.c-index l.initial.c-items) ++ drop l.c-index l.initial.c-items
