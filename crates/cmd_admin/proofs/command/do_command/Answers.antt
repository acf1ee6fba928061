use Rattle.std.proofs.Common.{rules, ◌≡◌, Some, None, Ok, subst}
use Rattle.spec_commands.specs.Reading.{with_arguments}
use Rattle.spec_admin.specs.Lines.{admin_shape, admin_done}
use Rattle.cmd_common.specs.inner.Takes.{Takes}
use Rattle.cmd_common.proofs.Taking.{plays_untaken}
use Rattle.cmd_admin.proofs.Ends.{queue_taken, queue_untaken}
use Rattle.cmd_admin.proofs.command.do_command.Goals as goal

pub returns-in-None-clause-plays : goal.returns-in-None-clause-plays
returns-in-None-clause-plays c =
    let none : c.arguments.result ≡ Ok None = search rules in
    let sought = subst (λ shape. Takes (with_arguments c.args.d c.args.guard.now.actor c.args.word.now shape c.args.text.now) c.args.guard.now c.arguments.new.guard c.arguments.result) c.shape_of.ensures c.arguments.ensures.takes in
    plays_untaken (with_arguments c.args.d c.args.guard.now.actor c.args.word.now (admin_shape c.args.command) c.args.text.now) (admin_done c.args.queue.now c.args.d c.args.guard.now.actor c.args.command) c.args.guard.now c.arguments.new.guard c.arguments.result sought none

pub returns-in-None-clause-queue : goal.returns-in-None-clause-queue
returns-in-None-clause-queue c =
    let none : c.arguments.result ≡ Ok None = search rules in
    let sought = subst (λ shape. Takes (with_arguments c.args.d c.args.guard.now.actor c.args.word.now shape c.args.text.now) c.args.guard.now c.arguments.new.guard c.arguments.result) c.shape_of.ensures c.arguments.ensures.takes in
    queue_untaken c.args.command c.args.d c.args.word.now c.args.text.now c.args.guard.now c.arguments.new.guard c.args.queue.now
    (subst (λ q. Takes (with_arguments c.args.d c.args.guard.now.actor c.args.word.now (admin_shape c.args.command) c.args.text.now) c.args.guard.now c.arguments.new.guard q) none sought)

pub returns-in-Some-clause-queue : goal.returns-in-Some-clause-queue
returns-in-Some-clause-queue c =
    let some : c.arguments.result ≡ Ok (Some c.in-Some.args) = search rules in
    let sought = subst (λ shape. Takes (with_arguments c.args.d c.args.guard.now.actor c.args.word.now shape c.args.text.now) c.args.guard.now c.arguments.new.guard c.arguments.result) c.shape_of.ensures c.arguments.ensures.takes in
    queue_taken c.args.command c.args.d c.args.word.now c.args.text.now c.in-Some.args c.args.guard.now c.arguments.new.guard c.args.queue.now c.perform.new.queue c.perform.result
    (subst (λ q. Takes (with_arguments c.args.d c.args.guard.now.actor c.args.word.now (admin_shape c.args.command) c.args.text.now) c.args.guard.now c.arguments.new.guard q) some sought) c.perform.ensures.queue
