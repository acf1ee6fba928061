use Rattle.std.proofs.Common.{◌≡◌, ◌++◌, take, drop, if◌then◌else◌}
use Rattle.std.specs.Prelude.{map}
use Rattle.muck_queue.specs.declared.process.Process.{Process}
use Rattle.muck_queue.specs.Queues.{has_trigger, without_trigger}
use Rattle.muck_queue.proofs.processes.clear_trigger.Given as goal

abbrev pub invariant-loop-i : goal.invariant-loop-i
invariant-loop-i l =
    l.processes.items ≡ map {A = Process} (λ p. if has_trigger l.trigger p then without_trigger p else p) (take l.i l.initial.processes.items) ++ drop l.i l.initial.processes.items
