use Rattle.cmd_play.proofs.Licences.{line_licensed}
use Rattle.cmd_play.proofs.command.run.Goals as goal

pub returns-clause-licensed : goal.returns-clause-licensed
returns-clause-licensed c = line_licensed _ _ c.args.guard.now c.do_line.new.guard _ c.do_line.ensures
