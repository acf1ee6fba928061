use Rattle.std.proofs.Common.{◌≡◌}
use Rattle.std.specs.List.{find}
use Rattle.muck_match.specs.Naming.{is_player_named, player_named}
use Rattle.muck_match.proofs.Candidates.{numbers_from}
use Rattle.muck_match.proofs.naming.player_named.Given as goal

abbrev pub invariant-loop-n : goal.invariant-loop-n
invariant-loop-n g l = find (is_player_named l.name (g.S.Scene.shown l.scene)) (numbers_from l.n l.count) ≡ player_named (g.S.Scene.shown l.scene) l.name
