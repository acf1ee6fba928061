use Rattle.muck_mpi.proofs.Hearing.{speak_shown, speak_did}
use Rattle.muck_mpi.proofs.speaker.speak.Goals as goal

pub returns-clause-shown : goal.returns-clause-shown
returns-clause-shown c = speak_shown c.args.this c.args.how.now c.args.cmd.now c.args.arg.now c.args.text c.in_ok-vars.vars c.args.guard.now c.hear-answer.result c.shown_line.result c.in_ok-vars.ensures c.hear-answer.ensures.means c.shown_line.ensures

pub returns-clause-did : goal.returns-clause-did
returns-clause-did c = speak_did c.args.this c.args.how.now c.args.cmd.now c.args.arg.now c.args.text c.in_ok-vars.vars c.args.guard.now c.hear-answer.new.guard c.hear-answer.result c.shown_line.result c.in_ok-vars.ensures c.hear-answer.ensures.world c.hear-answer.ensures.actor c.hear-answer.ensures.same c.shown_line.ensures
