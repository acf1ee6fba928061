use Rattle.std.proofs.Common.{ℕ, ◌<◌, ap, sym, ◌∙◌, subst}
use Rattle.spec_events.specs.Histories.{now}
use Rattle.muck_machine.specs.declared.world.situation.Situation.{Situation}
use Rattle.muck_machine.proofs.Situated.{hears_lawful, there_lawful}
use Rattle.muck_peer.specs.declared.steps.Want.{Want}
use Rattle.muck_peer.specs.Moves.{IsWanted}
use Rattle.muck_peer.proofs.Stepping.{ending_wanted}
use Rattle.muck_peer.proofs.peer.Peer.want.Goals as goal

pub returns-then-may_close : goal.returns-then-may_close
returns-then-may_close c =
    let lawful = there_lawful c.args.self.now.number (now c.args.world.now) c.requires.alive in
    subst (λ (x : Want). IsWanted x c.args.self.now (now c.args.world.now)) (sym c.ending.ensures)
    (ending_wanted c.args.stands.there c.args.self.now (now c.args.world.now) (lawful ∙ sym (ap (λ (s : Situation). s.there) c.requires.seen)) (c.may_close.ensures c.if-may_close.true))

pub returns-then-takes_now : goal.returns-then-takes_now
returns-then-takes_now c =
    let some = c.takes_now.ensures c.if-takes_now.true in
    let free = c.takeable-queued.ensures some in
    (free.0, subst (λ (n : ℕ). 0 < n) (free.1 ∙ ap (λ (s : Situation). s.queued) c.requires.seen) some)

pub returns-then-hears : goal.returns-then-hears
returns-then-hears c =
    let next = c.has_next-hears.ensures c.if-hears.true in
    ((λ line. hears_lawful c.args.self.now.number (now c.args.world.now) line c.requires.alive ∙ sym (ap (λ (s : Situation). s.hears) c.requires.seen) ∙ next.1), next.0)
