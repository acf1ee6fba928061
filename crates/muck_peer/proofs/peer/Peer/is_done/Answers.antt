use Rattle.std.proofs.Common.{◌≡◌, ap, sym, ◌∙◌, arith, length}
use Rattle.std.proofs.lemmas.Bool.{both_ways, not-true}
use Rattle.muck_laws.proofs.Lists.{stable}
use Rattle.spec_events.specs.World.{queue_of}
use Rattle.spec_events.specs.Histories.{now}
use Rattle.muck_machine.specs.declared.world.situation.Situation.{Situation}
use Rattle.muck_peer.proofs.Stepping.{off_stopping, off_idle}
use Rattle.muck_peer.proofs.peer.Peer.is_done.Goals as goal

pub returns-then-is_stopping : goal.returns-then-is_stopping
returns-then-is_stopping c e =
    let same : c.args.stands.queued ≡ length (queue_of c.args.self.now.number (now c.args.world.now)) = ap (λ (s : Situation). s.queued) c.requires.seen in
    let none = c.if-queued-gt0.false in
    off_stopping c.args.self.now (now c.args.world.now) (sym (c.is_stopping.ensures c.requires.alive) ∙ c.if-is_stopping.true) (omega arith)
    (stable _ (λ kept. both_ways c.has_unsent.result c.if-has_unsent.false (c.has_unsent.ensures.1 kept)))

pub returns : goal.returns
returns c e =
    let same : c.args.stands.queued ≡ length (queue_of c.args.self.now.number (now c.args.world.now)) = ap (λ (s : Situation). s.queued) c.requires.seen in
    let none = c.if-queued-gt0.false in
    off_idle c.args.self.now (now c.args.world.now) (sym (ap (λ (s : Situation). s.ready) c.requires.seen) ∙ not-true c.args.stands.ready e) (omega arith)
    (stable _ (λ kept. both_ways c.has_unsent.result c.if-has_unsent.false (c.has_unsent.ensures.1 kept)))
