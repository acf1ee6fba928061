use Rattle.std.proofs.Common.{◌∙◌, Option, ap, sym, arith}
use Rattle.std.specs.Prelude.{slice_get}
use Rattle.std.specs.Option.{option_and_then}
use Rattle.std.proofs.lemmas.Int.{to_z-of_z}
use Rattle.muck_queue.specs.declared.process.Process.{Process}
use Rattle.muck_queue.specs.Queues.{has_pid, without_event}
use Rattle.muck_queue.proofs.Positions.{changed_where, changed_nowhere, found_where, found_nowhere}
use Rattle.muck_queue.proofs.processes.take_event.Goals as goal

pub returns-then-at-len-clause-event : goal.returns-then-at-len-clause-event
returns-then-at-len-clause-event c =
    let h = c.ranges.pid in
    c.take_event.ensures.event ∙ ap (λ (o : Option Process). option_and_then (λ p. slice_get p.events 0) o) (sym (found_where (has_pid c.args.pid) c.args.processes.now.items _ _ (simp to_z-of_z at c.place_of-at.ensures.at) (omega arith) c.index_mut-p.ensures.value))

pub returns-then-at-len-clause-rest : goal.returns-then-at-len-clause-rest
returns-then-at-len-clause-rest c =
    let h = c.ranges.pid in
    changed_where (has_pid c.args.pid) without_event _ _ _ _ (simp to_z-of_z at c.place_of-at.ensures.at) (omega arith) c.index_mut-p.ensures.value c.take_event.ensures.rest

pub returns-clause-event : goal.returns-clause-event
returns-clause-event c =
    let h = c.ranges.pid in
    ap (λ (o : Option Process). option_and_then (λ p. slice_get p.events 0) o) (sym (found_nowhere (has_pid c.args.pid) c.args.processes.now.items _ (simp to_z-of_z at c.place_of-at.ensures.at) (omega arith)))

pub returns-clause-rest : goal.returns-clause-rest
returns-clause-rest c =
    let h = c.ranges.pid in
    changed_nowhere (has_pid c.args.pid) without_event _ _ (simp to_z-of_z at c.place_of-at.ensures.at) (omega arith)
