use Rattle.std.proofs.Common.{Ok}
use Rattle.cmd_common.proofs.Shown.{shown_one, shown_none}
use Rattle.cmd_common.proofs.showing.show_lines.Goals as goal

pub loop-line-init : goal.loop-line-init
loop-line-init c = λ new r t. t

pub loop-line-preserved : goal.loop-line-preserved
loop-line-preserved c = λ new r t. c.loop-line.invariant new r (shown_one _ _ _ c.line-item.result c.loop-line.guard c.show_line.new.guard new r c.loop-line-test.true c.line-item.is c.in_ok-show_line.ensures t)

pub returns : goal.returns
returns c = c.loop-line.invariant c.loop-line.guard (Ok tt) (shown_none _ _ _ c.loop-line.guard c.loop-line-test.false)
