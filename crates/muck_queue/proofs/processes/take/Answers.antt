use Rattle.std.proofs.Common.{sym, arith}
use Rattle.std.proofs.lemmas.Int.{to_z-of_z}
use Rattle.muck_queue.specs.Queues.{has_pid}
use Rattle.muck_queue.proofs.Positions.{found_where, found_nowhere, without_where, without_nowhere}
use Rattle.muck_queue.proofs.processes.take.Goals as goal

pub returns-then-at-len-clause-process : goal.returns-then-at-len-clause-process
returns-then-at-len-clause-process c =
    let h = c.ranges.pid in
    sym (found_where (has_pid c.args.pid) c.args.processes.now.items _ _ (simp to_z-of_z at c.place_of-at.ensures.at) (omega arith) c.remove.ensures.value)

pub returns-then-at-len-clause-rest : goal.returns-then-at-len-clause-rest
returns-then-at-len-clause-rest c =
    let h = c.ranges.pid in
    without_where (has_pid c.args.pid) c.args.processes.now.items _ _ (simp to_z-of_z at c.place_of-at.ensures.at) (omega arith) c.remove.ensures.items

pub returns-clause-process : goal.returns-clause-process
returns-clause-process c =
    let h = c.ranges.pid in
    sym (found_nowhere (has_pid c.args.pid) c.args.processes.now.items _ (simp to_z-of_z at c.place_of-at.ensures.at) (omega arith))

pub returns-clause-rest : goal.returns-clause-rest
returns-clause-rest c =
    let h = c.ranges.pid in
    without_nowhere (has_pid c.args.pid) _ _ (simp to_z-of_z at c.place_of-at.ensures.at) (omega arith)
