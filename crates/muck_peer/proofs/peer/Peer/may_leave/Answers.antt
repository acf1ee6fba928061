use Rattle.std.proofs.Common.{◌≡◌, ap, sym, ◌∙◌, arith, length}
use Rattle.std.proofs.lemmas.Bool.{both_ways}
use Rattle.muck_laws.proofs.Lists.{stable}
use Rattle.spec_events.specs.World.{queue_of}
use Rattle.spec_serve.proofs.Causes.{cause_left}
use Rattle.muck_machine.specs.declared.world.situation.Situation.{Situation}
use Rattle.muck_peer.proofs.peer.Peer.may_leave.Goals as goal

pub returns : goal.returns
returns c e w seen counted =
    let same : c.args.stands.queued ≡ length (queue_of c.args.self.now.number w) = ap (λ (s : Situation). s.queued) seen in
    let none = c.if-queued-gt0.false in
    cause_left counted c.args.self.now w (sym (ap (λ (s : Situation). s.leaving) seen) ∙ e) (omega arith)
    (stable _ (λ kept. both_ways c.has_unsent.result c.if-has_unsent.false (c.has_unsent.ensures.1 kept)))
