use Rattle.std.proofs.Common.{ap, sym, ◌∙◌}
use Rattle.spec_serve.specs.inner.Keeping.{Peer}
use Rattle.spec_serve.proofs.Causes.{worked_refused, worked_stalled}
use Rattle.muck_peer.proofs.peer.Peer.takes_no_more.Goals as goal

pub returns-then-self : goal.returns-then-self
returns-then-self c e counted = worked_refused counted c.args.self.now _ (ap (λ (p : Peer). p.refused) (sym c.self.view_is) ∙ c.if-self.true)

pub returns-then-self-2 : goal.returns-then-self-2
returns-then-self-2 c e counted = worked_stalled counted c.args.self.now _ (ap (λ (p : Peer). p.stalled) (sym c.self.view_is) ∙ c.if-self-2.true) (sym (c.is_stopping.ensures c.requires) ∙ e)
