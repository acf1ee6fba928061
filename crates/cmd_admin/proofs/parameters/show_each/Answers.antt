use Rattle.std.proofs.Common.{rules, ◌≡◌, Ok, Err, sym, subst}
use Rattle.spec_commands.specs.Finding.{for_each}
use Rattle.spec_admin.specs.Lines.{parameter_shown}
use Rattle.muck_perm.specs.inner.Guards.{Did}
use Rattle.cmd_common.proofs.Each.{each_more, each_none}
use Rattle.cmd_admin.proofs.parameters.show_each.Goals as goal

pub loop-parameter-init : goal.loop-parameter-init
loop-parameter-init c = λ new r t. t

pub loop-parameter-preserved : goal.loop-parameter-preserved
loop-parameter-preserved c = λ new r t. c.loop-parameter.invariant new r (each_more _ _ _ _ c.loop-parameter.guard c.show_parameter.new.guard new r c.loop-parameter-test.true c.in_ok-show_parameter.ensures t)

pub returns-in_err-show_parameter : goal.returns-in_err-show_parameter
returns-in_err-show_parameter c =
    let err : c.from_residual.result ≡ Err c.in_err-show_parameter.field-0.0 = search rules in
    subst (λ q. Did (for_each (parameter_shown c.args.d c.args.tune.now) c.args.parameters.now) c.args.guard.now c.show_parameter.new.guard q) (sym err)
    (c.loop-parameter.invariant c.show_parameter.new.guard (Err c.in_err-show_parameter.field-0.0) c.in_err-show_parameter.ensures)

pub returns : goal.returns
returns c = c.loop-parameter.invariant c.loop-parameter.guard (Ok tt) (each_none _ _ _ c.loop-parameter.guard c.loop-parameter-test.false)
