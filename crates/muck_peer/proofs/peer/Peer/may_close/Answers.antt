use Rattle.std.proofs.Common.{ap, sym, ◌∙◌}
use Rattle.spec_events.specs.Histories.{now}
use Rattle.spec_serve.specs.inner.Keeping.{Peer}
use Rattle.spec_serve.proofs.Causes.{cause_fault}
use Rattle.muck_peer.proofs.peer.Peer.may_close.Goals as goal

pub returns-then-self : goal.returns-then-self
returns-then-self c e counted = cause_fault counted c.args.self.now _ (ap (λ (p : Peer). p.faulted) (sym c.self.view_is) ∙ c.if-self.true)

pub returns-then-may_leave : goal.returns-then-may_leave
returns-then-may_leave c e counted = c.may_leave.ensures c.if-may_leave.true (now c.args.world.now) c.requires.seen counted
