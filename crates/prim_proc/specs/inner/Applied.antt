-- What a primitive of processes makes of a frame, of the world that a guard lends and of the processes.
use Rattle.std.specs.Prelude.{◌≡◌, ◌<◌, ◌≤◌, ℕ, List, length, drop, Option, Some, None, Result, Ok, Err}
use Rattle.muf_model.specs.Answer.{stack_most}
use Rattle.muf_model.specs.Datum.{Datum}
use Rattle.muf_frame.specs.declared.fault.PrimFault.{PrimFault}
use Rattle.muf_frame.specs.declared.fault.PrimFault.TheVariants.{Fault, NoMemory}
use Rattle.muf_frame.specs.inner.Shown.{Shown, flat}
use Rattle.muck_perm.specs.declared.guard.Guard.{Guard}
use Rattle.muck_perm.specs.inner.Guards.{Same, Kept, world_of}
use Rattle.prim_common.specs.inner.Applied.{Untouched}
use Rattle.muck_queue.specs.Queues.{Queue as Table}
use Rattle.spec_processes.specs.ProcessRows.{Effect, gives, waits, forks, enters, starts, refuses}
use Rattle.prim_proc.specs.declared.after.After.{After}
use Rattle.prim_proc.specs.declared.after.After.TheVariants.{Go, Wait, Fork, Call, Queue}

-- the frame has this stack, and nothing else of it has changed
abbrev pub HasStack : List Datum → Shown → Shown → Type 0
HasStack stack f g = flat g ≡ record (flat f) { stack = stack }

-- nothing has changed
abbrev pub Unchanged : Shown → Shown → Guard → Guard → Table → Table → Type 0
Unchanged f g old new was is = (g ≡ f) × Untouched old new × (is ≡ was)

-- this stack is what is left once so many items are taken, which are there
abbrev pub IsLeft : ℕ → List Datum → Shown → Type 0
IsLeft n stack f = (n ≤ length f.stack) × (stack ≡ drop n (flat f).stack)

-- what CALL takes
abbrev pub called_items : Option (List ℕ) → ℕ
called_items None = 1
called_items (Some name) = 2

-- The frame, the world and the processes are as the effect says, but for what is to follow; or the primitive is refused, and
-- nothing has changed. After want of memory nothing is said of them, but that the guard holds the same places.
abbrev pub Applied : Effect → Shown → Shown → Guard → Guard → Table → Table → Result After PrimFault → Type 0
Applied (gives stack w q) f g old new was is (Ok Go) = HasStack stack f g × (world_of new ≡ w) × Kept old new × (is ≡ q)
Applied (waits n stack q) f g old new was is (Ok Wait) = HasStack stack f g × Untouched old new × (is ≡ q)
Applied (forks stack) f g old new was is (Ok Fork) = HasStack stack f g × (length stack < stack_most) × Untouched old new × (is ≡ was)
Applied (enters stack d name) f g old new was is (Ok (Call program word)) =
    Unchanged f g old new was is × (program.0 ≡ d) × (word ≡ name) × IsLeft (called_items name) stack f
Applied (starts stack d seconds argument) f g old new was is (Ok (Queue program delay text)) =
    Unchanged f g old new was is × (program.0 ≡ d) × (delay ≡ seconds) × (text ≡ argument) × IsLeft 3 stack f
Applied (refuses e) f g old new was is (Err (Fault h)) = (h ≡ e) × Unchanged f g old new was is
Applied effect f g old new was is (Err NoMemory) = Same old new
Applied effect f g old new was is result = ⊥
