use Rattle.std.proofs.Common.{refl, ◌∙◌, ap, arith, length, take, min}
use Rattle.spec_events.specs.World.{queue_of}
use Rattle.spec_events.specs.Histories.{now}
use Rattle.spec_events.proofs.Reached.{take_lawful}
use Rattle.muck_turns.specs.contracts.state.State as state
use Rattle.muck_machine.proofs.Keepings.{keeps_entered, keeps_same, dead_seen, state_seen, reads_dead, reads_alive}
use Rattle.muck_machine.proofs.Taken.{taken_so, none_taken}
use Rattle.muck_machine.proofs.world.World.take.Goals as goal

pub returns-then-self-clause-count : goal.returns-then-self-clause-count
returns-then-self-clause-count c = reads_dead (λ w. min (length (queue_of c.args.d w)) (length c.args.buf.now)) 0 c.self.inside.past _ _ c.self.invariant c.self.view_is c.if-self.true

pub invariant_of-self : goal.invariant_of-self
invariant_of-self c =
    let alive = dead_seen c.self.inside.past _ _ c.self.invariant c.self.view_is ∙ c.if-self.false in
    let count = c.take-n.ensures.count ∙ ap (λ w. min (length (queue_of c.args.d w)) (length c.args.buf.now)) (c.state.view_is ∙ state_seen c.self.inside.past _ _ c.self.invariant c.self.view_is c.if-self.false) in
    keeps_entered c.self.inside.past _ _ _ _ _ c.self.invariant c.self.view_is (take_lawful (now c.args.self.now) c.args.d _ alive c.if-n-gt0.true (omega (arith, count))) refl c.enter.ensures
    (taken_so c.args.d c.take-n.result (state.the_view c.state.inside) _ _ c.take-n.ensures.state c.state.view_is)

pub invariant_of-self-else-n-gt0 : goal.invariant_of-self-else-n-gt0
invariant_of-self-else-n-gt0 c =
    keeps_same c.self.inside.past _ _ c.self.invariant
    (taken_so c.args.d c.take-n.result (state.the_view c.state.inside) _ _ c.take-n.ensures.state c.state.view_is ∙ none_taken c.args.d c.take-n.result c.self.inside.state c.if-n-gt0.false)

pub returns-then-n-gt0-clause-count : goal.returns-then-n-gt0-clause-count
returns-then-n-gt0-clause-count c =
    reads_alive (λ w. min (length (queue_of c.args.d w)) (length c.args.buf.now)) _ _ c.self.inside.past _ _ c.self.invariant c.self.view_is c.if-self.false
    (c.take-n.ensures.count ∙ ap (λ w. min (length (queue_of c.args.d w)) (length c.args.buf.now)) c.state.view_is)

pub returns-then-n-gt0-clause-bytes : goal.returns-then-n-gt0-clause-bytes
returns-then-n-gt0-clause-bytes c =
    c.take-n.ensures.bytes ∙ ap (λ w. take c.take-n.result (queue_of c.args.d w)) (c.state.view_is ∙ state_seen c.self.inside.past _ _ c.self.invariant c.self.view_is c.if-self.false)

pub returns-else-n-gt0-clause-count : goal.returns-else-n-gt0-clause-count
returns-else-n-gt0-clause-count c =
    reads_alive (λ w. min (length (queue_of c.args.d w)) (length c.args.buf.now)) _ _ c.self.inside.past _ _ c.self.invariant c.self.view_is c.if-self.false
    (c.take-n.ensures.count ∙ ap (λ w. min (length (queue_of c.args.d w)) (length c.args.buf.now)) c.state.view_is)
