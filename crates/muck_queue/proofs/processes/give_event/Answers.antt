use Rattle.std.proofs.Common.{arith}
use Rattle.std.proofs.lemmas.Int.{to_z-of_z}
use Rattle.muck_queue.specs.Queues.{has_pid, told_event}
use Rattle.muck_queue.specs.inner.Events.{shown}
use Rattle.muck_queue.proofs.Positions.{changed_where, changed_nowhere}
use Rattle.muck_queue.proofs.processes.give_event.Goals as goal

pub returns-in_ok-give_event-clause-ok : goal.returns-in_ok-give_event-clause-ok
returns-in_ok-give_event-clause-ok c =
    let h = c.ranges.pid in
    changed_where (has_pid c.args.pid) (told_event c.args.moment (shown c.args.event)) _ _ _ _ (simp to_z-of_z at c.place_of-at.ensures.at) (omega arith) c.index_mut-p.ensures.value c.in_ok-give_event.ensures.ok

pub returns-else-at-len-clause-ok : goal.returns-else-at-len-clause-ok
returns-else-at-len-clause-ok c =
    let h = c.ranges.pid in
    changed_nowhere (has_pid c.args.pid) (told_event c.args.moment (shown c.args.event)) _ _ (simp to_z-of_z at c.place_of-at.ensures.at) (omega arith)
