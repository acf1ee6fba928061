use Rattle.cmd_play.proofs.Moves.{quietly_shown}
use Rattle.cmd_play.proofs.going.show_leaving.Goals as goal

pub returns-clause-kept : goal.returns-clause-kept
returns-clause-kept c = quietly_shown _ _ c.args.guard.now c.show_others.new.guard _ c.show_others.ensures
