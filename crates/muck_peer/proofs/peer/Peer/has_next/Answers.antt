use Rattle.std.proofs.Common.{ap, ◌∙◌}
use Rattle.spec_serve.specs.inner.Keeping.{Peer}
use Rattle.muck_peer.proofs.peer.Peer.has_next.Goals as goal

pub returns : goal.returns
returns c e = ((λ none. c.has_line.ensures.0 c.if-not-has_line.false (ap (λ (p : Peer). p.cut.ready) c.self.view_is ∙ none)), e)
