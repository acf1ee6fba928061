use Rattle.std.proofs.Common.{ap, sym, ◌∙◌}
use Rattle.muck_queue.specs.Queues.{has_process_tied}
use Rattle.spec_events.specs.Histories.{now}
use Rattle.spec_serve.specs.inner.Keeping.{Peer}
use Rattle.spec_serve.proofs.Causes.{cause_tied, cause_ended}
use Rattle.muck_peer.proofs.peer.Peer.may_end.Goals as goal

pub returns-then-tied : goal.returns-then-tied
returns-then-tied c e counted =
    let w = now c.args.world.now in
    cause_tied counted c.args.self.now w (ap (λ (p : Peer). p.ended) (sym c.self.view_is) ∙ c.if-not-self.false)
    (ap (λ (p : Peer). has_process_tied p.number w.queue) (sym c.self.view_is) ∙ sym (c.tied.ensures c.requires.alive) ∙ c.if-tied.true)
    (c.has_no_more.ensures c.if-not-has_no_more.false w c.requires.alive c.requires.seen counted)

pub returns : goal.returns
returns c e counted =
    let w = now c.args.world.now in
    cause_ended counted c.args.self.now w (ap (λ (p : Peer). p.ended) (sym c.self.view_is) ∙ c.if-not-self.false)
    (c.has_no_more.ensures c.if-not-has_no_more.false w c.requires.alive c.requires.seen counted) (c.is_off.ensures e counted)
