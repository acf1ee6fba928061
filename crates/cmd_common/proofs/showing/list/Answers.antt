use Rattle.std.proofs.Common.{Ok}
use Rattle.cmd_common.proofs.Doing.{listed_one, listed_none}
use Rattle.cmd_common.proofs.showing.list.Goals as goal

pub loop-x-init : goal.loop-x-init
loop-x-init c = λ new r t. t

pub loop-x-preserved : goal.loop-x-preserved
loop-x-preserved c = λ new r t. c.loop-x.invariant new r (listed_one _ _ _ _ _ c.loop-x.guard c.show_name.new.guard new r c.loop-x-test.true c.in_ok-show_name.ensures t)

pub returns : goal.returns
returns c = c.loop-x.invariant c.loop-x.guard (Ok tt) (listed_none _ _ _ _ c.loop-x.guard c.loop-x-test.false)
