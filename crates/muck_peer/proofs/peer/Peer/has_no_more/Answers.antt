use Rattle.std.proofs.Common.{ap, sym, ◌∙◌}
use Rattle.std.proofs.lemmas.Bool.{both_ways, not-true}
use Rattle.muck_laws.proofs.Lists.{stable}
use Rattle.spec_serve.specs.inner.Keeping.{Peer}
use Rattle.spec_serve.proofs.Causes.{heard_none, heard_not}
use Rattle.muck_machine.specs.declared.world.situation.Situation.{Situation}
use Rattle.muck_machine.proofs.Situated.{hears_lawful}
use Rattle.muck_peer.proofs.peer.Peer.has_no_more.Goals as goal

pub returns-then-not-has_line : goal.returns-then-not-has_line
returns-then-not-has_line c e w alive seen counted =
    heard_none counted c.args.self.now w (ap (λ (p : Peer). p.cut.ready) (sym c.self.view_is) ∙ stable _ (λ some. both_ways c.has_line.result c.if-not-has_line.true (c.has_line.ensures.1 some)))

pub returns : goal.returns
returns c e w alive seen counted =
    heard_not counted c.args.self.now w (λ line. hears_lawful c.args.self.now.number w line alive ∙ sym (ap (λ (s : Situation). s.hears) seen) ∙ not-true c.args.stands.hears e)
