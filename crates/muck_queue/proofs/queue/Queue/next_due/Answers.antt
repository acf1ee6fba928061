use Rattle.std.proofs.Common.{rules, Some, None, arith, subst, to_z, of_z, w32}
use Rattle.muck_queue.specs.Queues.{Queue, next_due}
use Rattle.muck_queue.specs.inner.Known.{Knows}
use Rattle.muck_queue.proofs.Known.{none_next}
use Rattle.muck_queue.proofs.Leading.{next_is_next}
use Rattle.muck_queue.proofs.queue.Queue.next_due.Goals as goal

pub returns-then-moment-self-clause-number : goal.returns-then-moment-self-clause-number
returns-then-moment-self-clause-number c =
    let known = subst (λ (q : Queue). Knows c.self.inside.tied c.self.inside.soonest q.processes) c.self.view_is c.self.invariant.1 in
    none_next c.args.self.now _ _ c.args.moment known (omega arith)

pub returns-then-moment-self-clause-next : goal.returns-then-moment-self-clause-next
returns-then-moment-self-clause-next c =
    let known = subst (λ (q : Queue). Knows c.self.inside.tied c.self.inside.soonest q.processes) c.self.view_is c.self.invariant.1 in
    next_is_next c.args.moment c.args.self.now None (none_next c.args.self.now _ _ c.args.moment known (omega arith))

pub returns-in-Some-clause-next : goal.returns-in-Some-clause-next
unfolding next_due
returns-in-Some-clause-next c =
    next_is_next c.args.moment c.args.self.now (Some (to_z w32 (of_z w32 c.in-Some.p.now.number))) (search (rules, c.earliest.ensures, c.in-Some.is, c.in-Some.p-is, c.deref.ensures.value, c.self.view_is))

pub returns-in-None-clause-next : goal.returns-in-None-clause-next
unfolding next_due
returns-in-None-clause-next c =
    next_is_next c.args.moment c.args.self.now None (search (rules, c.earliest.ensures, c.in-None.is, c.deref.ensures.value, c.self.view_is))
