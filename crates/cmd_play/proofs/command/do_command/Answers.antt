use Rattle.std.proofs.Common.{rules, ◌≡◌, None, Ok, subst}
use Rattle.spec_commands.specs.Reading.{with_arguments}
use Rattle.spec_commands.specs.Commands.{play_shape, play_done, said_by_sign}
use Rattle.cmd_common.specs.inner.Takes.{Takes}
use Rattle.cmd_common.proofs.Taking.{plays_untaken}
use Rattle.cmd_play.proofs.command.do_command.Goals as goal

pub returns-in-None : goal.returns-in-None
unfolding said_by_sign
returns-in-None c =
    let none : c.arguments.result ≡ Ok None = search rules in
    let sought = subst (λ shape. Takes (with_arguments c.args.d c.args.guard.now.actor c.args.word.now shape c.args.text.now) c.args.guard.now c.arguments.new.guard c.arguments.result) c.shape_of.ensures c.arguments.ensures.takes in
    plays_untaken (with_arguments c.args.d c.args.guard.now.actor c.args.word.now (play_shape c.args.command) c.args.text.now) (play_done c.args.d c.args.guard.now.actor (record { word = c.args.word.now; rest = c.args.text.now }) c.args.command) c.args.guard.now c.arguments.new.guard c.arguments.result sought none
