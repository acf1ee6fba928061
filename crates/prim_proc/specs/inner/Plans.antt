-- What comes of what a primitive is to do.
use Rattle.std.specs.Prelude.{◌≡◌, ℕ, ◌/◌, ℤ, pos, true, false, nat_le, if◌then◌else◌, List, [], ◌∷◌, ◌++◌, Option, Some, None, Result, Ok, Err}
use Rattle.std.specs.Option.{option_map_or}
use Rattle.spec_live.specs.Lives.{Live, draw, random_word}
use Rattle.muf_model.specs.declared.fault.MufFault.TheVariants.{NotCompiled, TooHeavy}
use Rattle.muf_model.specs.declared.prims.Primitive.{Primitive}
use Rattle.muf_model.specs.declared.prims.Primitive.TheVariants.{Pid, Mode, SysTime, EventCount, Prog, Trig, Caller, Cmd}
use Rattle.muf_model.specs.Datum.{Datum, int, text}
use Rattle.muf_model.specs.inner.View.{view}
use Rattle.muf_frame.specs.declared.fault.PrimFault.{PrimFault}
use Rattle.muf_frame.specs.declared.fault.PrimFault.TheVariants.{Fault, NoMemory}
use Rattle.muf_frame.specs.inner.Shown.{Shown}
use Rattle.muck_queue.specs.declared.mode.Wait.TheVariants.{ForLine, ForEvent}
use Rattle.muck_queue.specs.Queues.{Queue, process, on_process, without_process, resting, sleeping, process_in_mode, told_event, without_event, events_of, events_most}
use Rattle.spec_processes.specs.declared.place.Place.{Place}
use Rattle.spec_processes.specs.ProcessRows.{Effect, gives, waits, forks, enters, starts, refuses, ProcessDoing, oldest, process_row}
use Rattle.prim_proc.specs.inner.Applied.{HasStack, called_items}
use Rattle.prim_proc.specs.declared.after.After.{After}
use Rattle.prim_proc.specs.declared.after.After.TheVariants.{Go, Wait}
use Rattle.prim_proc.specs.declared.plan.Plan.{Plan}
use Rattle.prim_proc.specs.declared.plan.Plan.TheVariants.{Nothing, Give, Draw, Kill, SetMode, Send, Receive, Sleep, Read, Fork, Enter, Start}

-- how many items come upon the stack, now or later
abbrev pub items_of : Plan → ℕ
items_of (Give item) = 1
items_of Draw = 1
items_of (Kill i) = 1
items_of Read = 1
items_of Fork = 1
items_of Receive = 2
items_of plan = 0

-- the events of the process of this number
abbrev pub events_in : ℤ → Queue → List (List ℕ × Datum)
events_in pid q = option_map_or (λ p. p.events) (process pid q) []

-- what is done, as a row says it
abbrev pub effect_of : Plan → Place → Live → Queue → Effect
effect_of Nothing x w q = gives [] w q
effect_of (Give item) x w q = gives (view item ∷ []) w q
effect_of Draw x w q = gives (int (pos (random_word w / 2)) ∷ []) (draw w) q
effect_of (Kill i) x w q = gives (int (pos 1) ∷ []) w (without_process i q)
effect_of (SetMode mode) x w q = gives [] w (on_process x.pid (process_in_mode mode) q)
effect_of (Send i name value) x w q =
    if nat_le events_most (events_of i q) then refuses TooHeavy else gives [] w (on_process i (told_event x.moment (name, view value)) q)
effect_of Receive x w q = oldest (events_in x.pid q) x w q
effect_of (Sleep due) x w q = waits 0 [] (on_process x.pid (sleeping due) q)
effect_of Read x w q = waits 1 [] (on_process x.pid (resting ForLine) q)
effect_of Fork x w q = forks []
effect_of (Enter program word) x w q = enters [] program.0 word
effect_of (Start program delay argument) x w q = starts [] program.0 delay argument

-- the plan has that effect, or the effect is the refusal
abbrev pub Plans : Effect → Place → Live → Queue → Result Plan PrimFault → Type 0
Plans effect x w q (Ok plan) = effect_of plan x w q ≡ effect
Plans effect x w q (Err (Fault f)) = effect ≡ refuses f
Plans effect x w q (Err NoMemory) = Unit {0}

-- what a primitive does; one without a row isn't there
abbrev pub does_of : Option ProcessDoing → ProcessDoing
does_of None x a p items w q = refuses NotCompiled
does_of (Some doing) x a p items w q = doing x a p items w q

-- upon the rest of the stack
abbrev pub stacked : List Datum → Effect → Effect
stacked rest (gives items w q) = gives (items ++ rest) w q
stacked rest (waits n items q) = waits n (items ++ rest) q
stacked rest (forks items) = forks (items ++ rest)
stacked rest (enters items d name) = enters (items ++ rest) d name
stacked rest (starts items d seconds argument) = starts (items ++ rest) d seconds argument
stacked rest (refuses f) = refuses f

-- so many items are all that such a primitive takes
abbrev pub TakesAll : Plan → ℕ → Type 0
TakesAll (Enter program word) n = n ≡ called_items word
TakesAll (Start program delay argument) n = n ≡ 3
TakesAll plan n = Unit {0}

-- an event was sent, or there were too many, and nothing has changed
abbrev pub Sent : ℤ → ℕ → List ℕ → Datum → Queue → Queue → Result (Unit {0}) PrimFault → Type 0
Sent pid moment name value old new (Ok u) = (nat_le events_most (events_of pid old) ≡ false) × (new ≡ on_process pid (told_event moment (name, value)) old)
Sent pid moment name value old new (Err (Fault f)) = (nat_le events_most (events_of pid old) ≡ true) × (f ≡ TooHeavy) × (new ≡ old)
Sent pid moment name value old new (Err NoMemory) = Unit {0}

-- the oldest of these events was given, upon the rest of the stack; or there is none, and the process waits
abbrev pub GivenOf : List (List ℕ × Datum) → Place → List Datum → Shown → Shown → Queue → Queue → After → Type 0
GivenOf (e ∷ events) x rest f g old new Go = HasStack (text e.0 ∷ e.1 ∷ rest) f g × (new ≡ on_process x.pid without_event old)
GivenOf [] x rest f g old new Wait = HasStack rest f g × (new ≡ on_process x.pid (resting ForEvent) old)
GivenOf events x rest f g old new after = ⊥

abbrev pub Received : Place → List Datum → Shown → Shown → Queue → Queue → After → Type 0
Received x rest f g old new after = GivenOf (events_in x.pid old) x rest f g old new after

-- the primitives that give an item and change nothing
abbrev pub fact_row : Primitive → Option ProcessDoing
fact_row Pid = process_row Pid
fact_row Mode = process_row Mode
fact_row SysTime = process_row SysTime
fact_row EventCount = process_row EventCount
fact_row Prog = process_row Prog
fact_row Trig = process_row Trig
fact_row Caller = process_row Caller
fact_row Cmd = process_row Cmd
fact_row p = None
