use Rattle.std.proofs.Common.{List, sym, subst}
use Rattle.spec_serve.specs.inner.Keeping.{Peer}
use Rattle.muck_porter.specs.inner.Moves.{Tends}
use Rattle.muck_porter.proofs.tending.tends_all.Goals as goal

pub returns-then-moved-clause-ok : goal.returns-then-moved-clause-ok
returns-then-moved-clause-ok g c t =
    subst (λ (ps : List Peer). Tends c.args.noted (g.L.Links.told c.args.links.now) (g.L.Links.told c.tends_each.new.links) c.args.peers.now.items ps) (sym c.holds_back-held.ensures) (c.in-Ok.ensures.ok t)

pub returns-else-moved-clause-ok : goal.returns-else-moved-clause-ok
returns-else-moved-clause-ok g c t =
    subst (λ (ps : List Peer). Tends c.args.noted (g.L.Links.told c.args.links.now) (g.L.Links.told c.tends_each.new.links) c.args.peers.now.items ps) (sym c.holds_back-held.ensures) (c.in-Ok.ensures.ok t)
