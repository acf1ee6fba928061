use Rattle.std.proofs.Common.{ap, sym, ◌∙◌, subst, ◌<◌, length}
use Rattle.spec_events.specs.World.{queue_of}
use Rattle.spec_events.specs.Histories.{now}
use Rattle.spec_serve.specs.inner.Keeping.{Peer}
use Rattle.muck_peer.specs.Moves.{ChoseAs}
use Rattle.muck_peer.proofs.peer.Peer.takes.Goals as goal

pub takes_some-requires-clause-none : goal.takes_some-requires-clause-none
takes_some-requires-clause-none c = ap (λ (p : Peer). p.unsent) c.widens.ensures ∙ c.requires.none

pub takes_some-requires-clause-some : goal.takes_some-requires-clause-some
takes_some-requires-clause-some c = subst (λ (p : Peer). 0 < length (queue_of p.number (now c.args.world.now))) (sym c.widens.ensures) c.requires.some

pub returns : goal.returns
returns c =
    let e = c.takes_some.ensures in
    (e.0, e.1, subst (λ (p : Peer). ChoseAs c.takes_some.result p c.takes_some.new.self (now c.args.world.now) e.0) c.widens.ensures e.2, e.3)
