use Rattle.std.proofs.Common.{◌≡◌, ◌≤◌, Result}
use Rattle.muck_model.specs.declared.memory.NoMemory.{NoMemory}
use Rattle.muck_perm.specs.declared.guard.Guard.{Guard}
use Rattle.muck_perm.specs.inner.Guards.{Did, objects_of, world_of}
use Rattle.cmd_admin.proofs.Listed.{rest_shown}
use Rattle.cmd_admin.proofs.processes.list.Given as goal

-- what shows the rest from here shows all from the start, and nothing else has changed
abbrev pub invariant-loop-process : goal.invariant-loop-process
invariant-loop-process l =
    ((new : Guard) (r : Result (Unit {0}) NoMemory) → Did (rest_shown l.d l.fn.guard.actor (world_of l.fn.guard) l.process-items l.process-index l.count) l.guard new r → Did (rest_shown l.d l.fn.guard.actor (world_of l.fn.guard) l.process-items 0 0) l.fn.guard new r)
    × (objects_of l.guard ≡ objects_of l.fn.guard)
    × (l.guard.actor ≡ l.fn.guard.actor)
    × (l.count ≤ l.process-index)
