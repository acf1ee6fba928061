use Rattle.std.proofs.Common.{ap, sym, ◌∙◌}
use Rattle.muck_laws.proofs.Parts.{none_unsent, some_unsent}
use Rattle.spec_serve.specs.inner.Keeping.{Peer}
use Rattle.muck_peer.proofs.peer.Peer.has_unsent.Goals as goal

pub returns : goal.returns
returns c = (
  (λ t e. some_unsent c.self.inside.at c.self.inside.len c.self.inside.buffer.items t c.self.invariant.1 (ap (λ (p : Peer). p.unsent) c.self.view_is ∙ e)),
  (λ ne. none_unsent c.self.inside.at c.self.inside.len c.self.inside.buffer.items (λ e. ne (sym (ap (λ (p : Peer). p.unsent) c.self.view_is) ∙ e))),
)
