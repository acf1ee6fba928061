use Rattle.std.proofs.Common.{◌∙◌, None, Option, ap, sym, arith}
use Rattle.std.specs.Option.{option_and_then}
use Rattle.std.proofs.lemmas.Int.{to_z-of_z}
use Rattle.muck_queue.specs.declared.process.Process.{Process}
use Rattle.muck_queue.specs.Queues.{has_pid, at_state}
use Rattle.muck_queue.proofs.Positions.{changed_where, changed_nowhere, found_where, found_nowhere}
use Rattle.muck_queue.proofs.processes.lend.Goals as goal

pub returns-then-at-len-clause-running : goal.returns-then-at-len-clause-running
returns-then-at-len-clause-running c =
    let h = c.ranges.pid in
    c.take.ensures.value ∙ ap (λ (o : Option Process). option_and_then (λ p. p.running) o) (sym (found_where (has_pid c.args.pid) c.args.processes.now.items _ _ (simp to_z-of_z at c.place_of-at.ensures.at) (omega arith) c.index_mut-p.ensures.value))

pub returns-then-at-len-clause-rest : goal.returns-then-at-len-clause-rest
returns-then-at-len-clause-rest c =
    let h = c.ranges.pid in
    changed_where (has_pid c.args.pid) (at_state None) _ _ _ _ (simp to_z-of_z at c.place_of-at.ensures.at) (omega arith) c.index_mut-p.ensures.value (ap (λ r. at_state r c.index_mut-p.result.now) c.take.ensures.after)

pub returns-clause-running : goal.returns-clause-running
returns-clause-running c =
    let h = c.ranges.pid in
    ap (λ (o : Option Process). option_and_then (λ p. p.running) o) (sym (found_nowhere (has_pid c.args.pid) c.args.processes.now.items _ (simp to_z-of_z at c.place_of-at.ensures.at) (omega arith)))

pub returns-clause-rest : goal.returns-clause-rest
returns-clause-rest c =
    let h = c.ranges.pid in
    changed_nowhere (has_pid c.args.pid) (at_state None) _ _ (simp to_z-of_z at c.place_of-at.ensures.at) (omega arith)
