use Rattle.std.proofs.Common.{rules, ◌≡◌, true, false, sym, ◌∙◌}
use Rattle.muck_perm.specs.inner.Guards.{objects_of}
use Rattle.cmd_admin.proofs.Checked.{is_player_at, player_checked}
use Rattle.cmd_admin.proofs.players.is_player.Goals as goal

pub returns-in-Player : goal.returns-in-Player
returns-in-Player c = let is : is_player_at c.args.x (objects_of c.args.guard.now) ≡ true = search rules in sym is ∙ player_checked c.args.x (objects_of c.args.guard.now)

pub returns-in_default : goal.returns-in_default
returns-in_default c = let is : is_player_at c.args.x (objects_of c.args.guard.now) ≡ false = search rules in sym is ∙ player_checked c.args.x (objects_of c.args.guard.now)

pub returns-in-None : goal.returns-in-None
returns-in-None c = let is : is_player_at c.args.x (objects_of c.args.guard.now) ≡ false = search rules in sym is ∙ player_checked c.args.x (objects_of c.args.guard.now)
