use Rattle.cmd_build.proofs.Entered.{entered_new}
use Rattle.cmd_build.proofs.programs.make_program.Goals as goal

pub returns : goal.returns
returns c = entered_new c.args.d c.args.guard.now.actor c.args.name c.args.guard.now c.create_program-made.new.self _ c.create_program-made.result _ (rw c.actor.ensures at c.create_program-made.ensures) c.enter_made.ensures
