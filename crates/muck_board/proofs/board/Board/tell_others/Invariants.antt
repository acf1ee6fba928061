use Rattle.std.proofs.Common.{◌≡◌, ◌++◌, take, drop}
use Rattle.std.specs.Prelude.{map}
use Rattle.spec_live.specs.Connections.{told_where, hears}
use Rattle.muck_board.specs.inner.Silent.{quiet}
use Rattle.muck_board.proofs.board.Board.tell_others.Given as goal

abbrev pub invariant-loop-c : goal.invariant-loop-c
invariant-loop-c g l = record {
  told : l.c-items ≡ map (told_where (hears (g.K.Keys.places l.keys) l.room l.but) l.text) (take l.c-index l.initial.c-items) ++ drop l.c-index l.initial.c-items;
  rest : map quiet l.c-items ≡ map quiet l.initial.c-items;
}
