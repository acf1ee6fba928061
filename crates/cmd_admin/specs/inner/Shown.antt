-- What is shown of a process.
use Rattle.std.specs.Prelude.{◌≡◌, ◌⊎◌, ℕ, true, false, Result, Ok, Err}
use Rattle.muck_model.specs.declared.memory.NoMemory.{NoMemory}
use Rattle.muck_queue.specs.declared.process.Process.{Process}
use Rattle.spec_admin.specs.Processes.{may_end, process_shown}
use Rattle.muck_perm.specs.declared.guard.Guard.{Guard}
use Rattle.muck_perm.specs.inner.Guards.{Done, Same, world_of}

-- one that may be ended is shown, and counts; of another nothing
abbrev pub IsShown : ℕ → Process → Guard → Guard → Result ℕ NoMemory → Type 0
IsShown d p old new (Ok n) =
    ((may_end old.actor (world_of old) p ≡ true) × (n ≡ 1) × Done (process_shown d p) old new)
    ⊎ ((may_end old.actor (world_of old) p ≡ false) × (n ≡ 0) × (new ≡ old))
IsShown d p old new (Err e) = Same old new
