use Rattle.std.proofs.Common.{arith}
use Rattle.std.proofs.lemmas.Int.{to_z-of_z}
use Rattle.muck_queue.specs.Queues.{has_pid, units_counted}
use Rattle.muck_queue.proofs.Positions.{changed_where, changed_nowhere}
use Rattle.muck_queue.proofs.processes.count.Goals as goal

pub returns-then-at-len : goal.returns-then-at-len
returns-then-at-len c =
    let h = c.ranges.pid in
    changed_where (has_pid c.args.pid) (units_counted c.args.units) _ _ _ _ (simp to_z-of_z at c.place_of-at.ensures.at) (omega arith) c.index_mut-p.ensures.value c.count.ensures

pub returns-else-at-len : goal.returns-else-at-len
returns-else-at-len c =
    let h = c.ranges.pid in
    changed_nowhere (has_pid c.args.pid) (units_counted c.args.units) _ _ (simp to_z-of_z at c.place_of-at.ensures.at) (omega arith)
