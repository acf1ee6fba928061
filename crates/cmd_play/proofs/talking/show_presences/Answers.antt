use Rattle.std.proofs.Common.{Ok}
use Rattle.cmd_common.proofs.Each.{each_more, each_none}
use Rattle.cmd_play.proofs.talking.show_presences.Goals as goal

pub loop-presence-init : goal.loop-presence-init
loop-presence-init c = λ new r t. t

pub loop-presence-preserved : goal.loop-presence-preserved
loop-presence-preserved c = λ new r t. c.loop-presence.invariant new r (each_more _ _ _ _ c.loop-presence.guard c.show_presence.new.guard new r c.loop-presence-test.true c.in_ok-show_presence.ensures t)

pub returns : goal.returns
returns c = c.loop-presence.invariant c.loop-presence.guard (Ok tt) (each_none _ _ _ c.loop-presence.guard c.loop-presence-test.false)
