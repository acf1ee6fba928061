use Rattle.std.proofs.Common.{rules, arith}
use Rattle.muck_queue.specs.Queues.{number_most}
use Rattle.muck_queue.proofs.Kept.{stands_wider, stands_added}
use Rattle.muck_queue.proofs.Known.{knows_added}
use Rattle.muck_queue.proofs.queue.Queue.append.Goals as goal

pub invariant_of-self : goal.invariant_of-self
invariant_of-self c = (stands_wider _ _ _ _ _ _ c.self.invariant.0 c.in_err-reserve.ensures.items c.in_err-reserve.ensures.capacity, c.self.invariant.1)

pub invariant_of-self-2 : goal.invariant_of-self-2
unfolding number_most
invariant_of-self-2 c =
    let h = c.self.ranges in
    let room = c.in_ok-reserve.ensures.ok in
    let least = c.min-soonest.ensures in (
      stands_added c.args.process _ _ _ _ _ _ _ _ c.self.invariant.0 c.in_ok-reserve.ensures.items (omega arith) (search (rules, c.requires)) c.in_ok-push.ensures.items,
      knows_added _ _ c.args.process c.ties_with-tied.result c.min-soonest.result _ _ _ c.self.invariant.1 c.ties_with-tied.ensures (omega arith) (omega arith) c.in_ok-push.ensures.items,
    )
