use Rattle.std.proofs.Common.{refl, sym, subst}
use Rattle.muck_links.proofs.Keys.{told_same}
use Rattle.spec_serve.specs.inner.Keeping.{Peer}
use Rattle.muck_peer.specs.Moves.{LinkStep}
use Rattle.muck_peer.proofs.Stepping.{link_same}
use Rattle.muck_peer.proofs.peer.Peer.sends_some.Goals as goal

pub returns-then-self-clause-step : goal.returns-then-self-clause-step
returns-then-self-clause-step g c t counted marks = link_same counted _ _ _ (told_same _ (λ s. s) (λ s. refl) _)

pub returns-clause-step : goal.returns-clause-step
returns-clause-step g c t counted marks =
    subst (λ (q : Peer). LinkStep counted c.args.self.now q (g.L.Links.told c.args.links.now) (g.L.Links.told c.sends-went.new.links)) (sym c.narrows.ensures) (c.sends-went.ensures.step t counted marks)
