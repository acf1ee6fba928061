use Rattle.std.proofs.Common.{rules, subst, sym, arith, Some}
use Rattle.muck_queue.specs.Queues.{Queue}
use Rattle.muck_queue.specs.inner.Leading.{IsNext}
use Rattle.muck_queue.proofs.Kept.{room_for, stands_claimed}
use Rattle.muck_queue.proofs.queue.Queue.claim.Goals as goal

pub push_reserved-requires : goal.push_reserved-requires
push_reserved-requires c =
    let next = subst (λ (q : Queue). IsNext c.args.moment q.claims q.processes (Some c.in-Some.number)) (sym c.self.view_is) c.in-Some.ensures.next in
    let room = room_for c.args.moment _ _ _ _ _ c.self.invariant.0 next in
    omega arith

pub invariant_of-self : goal.invariant_of-self
invariant_of-self c =
    let next = subst (λ (q : Queue). IsNext c.args.moment q.claims q.processes (Some c.in-Some.number)) (sym c.self.view_is) c.in-Some.ensures.next in
    (rw c.push_reserved.ensures.capacity (stands_claimed c.args.moment _ _ _ _ _ _ _ c.self.invariant.0 next (search rules) c.push_reserved.ensures.items), c.self.invariant.1)
