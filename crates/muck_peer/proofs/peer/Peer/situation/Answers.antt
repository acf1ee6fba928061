use Rattle.std.proofs.Common.{ap, ◌∙◌}
use Rattle.spec_events.specs.Histories.{now}
use Rattle.spec_serve.specs.inner.Keeping.{Peer}
use Rattle.muck_machine.specs.inner.Situations.{situation_in}
use Rattle.muck_peer.proofs.peer.Peer.situation.Goals as goal

pub returns : goal.returns
returns c = c.situation.ensures ∙ ap (λ (p : Peer). situation_in p.number (now c.args.world.now)) c.self.view_is
