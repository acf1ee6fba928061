use Rattle.std.proofs.Common.{◌≡◌, ◌<◌, ◌≤◌, pos, true}
use Rattle.muck_model.specs.Numbers.{dbref_numbered}
use Rattle.muck_match.specs.Naming.{is_player_named}
use Rattle.muck_match.proofs.Listed.{Passed}
use Rattle.muck_match.proofs.naming.player_among.Given as goal

abbrev pub invariant-loop-n : goal.invariant-loop-n
invariant-loop-n g l = record {
  most : l.least ≤ l.count;
  named : l.least < l.count → is_player_named l.name (g.S.Scene.shown l.scene) (dbref_numbered (pos l.least)) ≡ true;
  passed : Passed l.name (g.S.Scene.shown l.scene) l.numbers l.n-index l.least;
}
