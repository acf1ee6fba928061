-- What the code of slices and of shared primitives answers, by what the definitions say.
use Rattle.std.specs.Prelude.{◌≡◌, ℕ, ◌<◌, ◌≤◌, ℤ, pos, negsuc, List, drop, length, slice_get, Option, Some, None, Result, Ok, Err}
use Rattle.std.specs.Option.{option_map}
use Rattle.muck_model.specs.declared.dbref.Dbref.{Dbref}
use Rattle.spec_live.specs.Objects.{nothing}
use Rattle.muf_model.specs.declared.fault.MufFault.{MufFault}
use Rattle.muf_model.specs.declared.fault.MufFault.TheVariants.{ProcessLimit}
use Rattle.muf_model.specs.Answer.{stack_most}
use Rattle.muf_model.specs.Datum.{int}
use Rattle.muf_model.specs.inner.Flat.{Flat}
use Rattle.muf_model.specs.inner.Decode.{tree_of}
use Rattle.muf_model.specs.inner.Stands.{TreeStands}
use Rattle.muf_model.specs.Tree.{Definition}
use Rattle.muf_model.specs.Source.{Source, calls_running, program_entered, handed}
use Rattle.muf_model.specs.Unit.{calls_most}
use Rattle.muf_frame.specs.declared.fault.PrimFault.{PrimFault}
use Rattle.muf_frame.specs.declared.fault.PrimFault.TheVariants.{Fault as FrameFault, NoMemory as FrameNoMemory}
use Rattle.muf_frame.specs.inner.Shown.{Shown, flat}
use Rattle.muck_queue.specs.declared.process.Process.{Process}
use Rattle.muck_queue.specs.declared.fault.QueueFault.{QueueFault}
use Rattle.muck_queue.specs.declared.fault.QueueFault.TheVariants.{ProcessLimit as Limit, NoMemory as Wanted, TooManyEvents}
use Rattle.muf_running.specs.declared.entered.Entered.{Entered}
use Rattle.muf_running.specs.inner.Fitting.{program_with, IsAtPrimitive}
use Rattle.muf_running.specs.inner.Lending.{Apart, Differs}
use Rattle.spec_prims.specs.Asking.{object_numbered}
use Rattle.spec_prims.specs.Row.{WorldAnswer, gives, refuses, breaks}
use Rattle.spec_processes.specs.ProcessRows.{Effect, gives as effect_gives, waits, forks, enters, starts, refuses as effect_refuses}
use Rattle.prim_proc.specs.inner.Applied.{HasStack, IsLeft, called_items}
use Rattle.prim_proc.specs.declared.after.After.{After}
use Rattle.prim_proc.specs.declared.after.After.TheVariants.{Go, Wait, Fork, Call, Queue}
use Rattle.spec_events.specs.declared.starting.Call.{Call as Started}
use Rattle.spec_events.specs.World.{World}
use Rattle.spec_events.specs.Starting.{process_joined}
use Rattle.spec_events.specs.Slices.{SharedEffect, does, rests, fails, state_behind, child_of, queued_command}
use Rattle.muck_turns.specs.declared.state.deeds.Done.{Done}
use Rattle.muck_turns.specs.declared.state.deeds.Done.TheVariants.{Does as DoneDoes, Rests as DoneRests, Fails as DoneFails}
use Rattle.muck_turns.specs.declared.state.deeds.DeedFault.{DeedFault}
use Rattle.muck_turns.specs.declared.state.deeds.DeedFault.TheVariants.{Fault, NoMemory}
use Rattle.muck_turns.specs.declared.state.calls.Entrance.{Entrance}

-- a shared primitive was done or refused, where the process stood at s
abbrev pub DoneAs : SharedEffect World → Source → World → Done → Type 0
DoneAs deed s w (DoneDoes t) = deed ≡ does t w
DoneAs deed s w (DoneRests t) = deed ≡ rests t w
DoneAs deed s w (DoneFails t f) = (t ≡ s) × (deed ≡ fails f w)

-- a row was applied to a frame and to the world, or was refused, and then both are as they were, or broke off, and then the frame
-- is; after want of memory nothing is said of them
abbrev pub AppliedTo : WorldAnswer → Shown → Shown → World → World → Result (Unit {0}) PrimFault → Type 0
AppliedTo (gives stack live) f g w v (Ok x) = (flat g ≡ record (flat f) { stack = stack }) × (v ≡ record w { live = live })
AppliedTo (refuses e) f g w v (Err (FrameFault h)) = (h ≡ e) × (g ≡ f) × (v ≡ w)
AppliedTo (breaks e live) f g w v (Err (FrameFault h)) = (h ≡ e) × (g ≡ f) × (v ≡ record w { live = live })
AppliedTo row f g w v (Err FrameNoMemory) = Unit {0}
AppliedTo row f g w v result = ⊥

-- The row of a primitive of processes was applied to a frame, to the world and to its processes, or was refused. What is to follow CALL
-- and QUEUE finds their items on the stack still.
abbrev pub ProcessAppliedTo : Effect → Shown → Shown → World → World → Result After PrimFault → Type 0
ProcessAppliedTo (effect_gives stack live queue) f g w v (Ok Go) = HasStack stack f g × (v ≡ record w { live = live; queue = queue })
ProcessAppliedTo (waits n stack queue) f g w v (Ok Wait) = HasStack stack f g × (v ≡ record w { queue = queue })
ProcessAppliedTo (forks stack) f g w v (Ok Fork) = HasStack stack f g × (length stack < stack_most) × (v ≡ w)
ProcessAppliedTo (enters stack d name) f g w v (Ok (Call program word)) = (g ≡ f) × (v ≡ w) × (program.0 ≡ d) × (word ≡ name) × IsLeft (called_items name) stack f
ProcessAppliedTo (starts stack d seconds argument) f g w v (Ok (Queue program delay text)) =
    (g ≡ f) × (v ≡ w) × (program.0 ≡ d) × (delay ≡ seconds) × (text ≡ argument) × IsLeft 3 stack f
ProcessAppliedTo (effect_refuses e) f g w v (Err (FrameFault h)) = (h ≡ e) × (g ≡ f) × (v ≡ w)
ProcessAppliedTo effect f g w v (Err FrameNoMemory) = Unit {0}
ProcessAppliedTo effect f g w v result = ⊥

-- how QUEUE starts a program
abbrev pub queued_call : Dbref → ℤ → List ℕ → Started
queued_call player d argument = record { player = player; program = object_numbered d; trigger = nothing; command = queued_command; argument = argument }

-- the number of a child that joined, and -1 where it couldn't
abbrev pub child_number : World × Result ℤ MufFault → ℤ
child_number (w, Ok n) = n
child_number (w, Err f) = negsuc 0

-- a child of this process joined the others, at that state and with that number; or there is no room for it
abbrev pub Bears : Option Process → Source → World → World → ℤ → Type 0
Bears None s w v n = ⊥
Bears (Some p) s w v n =
    (n ≡ child_number (process_joined (child_of w.moment (handed (int (pos 0)) s) p) w))
    × (v ≡ (process_joined (child_of w.moment (handed (int (pos 0)) s) p) w).0)

-- a frame of a process that stands at a primitive, but for its stack and its variables
abbrev pub PassesOn : List Entered → Flat → Type 0
PassesOn es g = (f : Flat) × (s : Source) × Apart es f s × Differs f g × IsAtPrimitive s.now

-- the state in which a word is entered from the one at CALL
abbrev pub target : Entrance → Source → Option Source
target e s =
    option_map (λ d. program_entered (program_with e.program e.code) d (state_behind (drop e.items s.stack) s)) (slice_get (tree_of e.code).words e.word)

-- it may be entered from there
pub record MayEnter (e : Entrance) (s : Source) : Type 0 where
  pub items : e.items ≤ length s.stack
  pub stands : TreeStands e.code (tree_of e.code)
  pub word : e.word < length e.code.words
  pub room : calls_running s.marks < calls_most

-- a word is to be entered, or is refused
abbrev pub Enters : SharedEffect World → Source → World → Result Entrance DeedFault → Type 0
Enters deed s w (Ok e) = MayEnter e s × ((t : Source) → target e s ≡ Some t → deed ≡ does t w)
Enters deed s w (Err (Fault f)) = deed ≡ fails f w
Enters deed s w (Err NoMemory) = Unit {0}

-- the word of this number is that one
abbrev pub IsWord : List Definition → Option Definition → Option ℕ → Type 0
IsWord ds d None = d ≡ None
IsWord ds d (Some n) = (n < length ds) × (d ≡ slice_get ds n)

-- a process was started, or the fault is answered for which there is none
abbrev pub Begins : World × Result ℤ MufFault → World → Result ℤ DeedFault → Type 0
Begins (w, Ok n) v (Ok m) = (m ≡ n) × (v ≡ w)
Begins (w, Err f) v (Err (Fault g)) = (g ≡ f) × (v ≡ w)
Begins r v (Err NoMemory) = Unit {0}
Begins r v result = ⊥

-- what is answered where a process is added speaks of no events
abbrev pub IsAdding : Result ℤ QueueFault → Type 0
IsAdding (Ok n) = Unit {0}
IsAdding (Err Limit) = Unit {0}
IsAdding (Err Wanted) = Unit {0}
IsAdding (Err TooManyEvents) = ⊥

-- the number of a process that was added, or the fault of one that was refused
abbrev pub StartsAs : Result ℤ QueueFault → Result ℤ DeedFault → Type 0
StartsAs (Ok n) (Ok m) = m ≡ n
StartsAs (Err Limit) (Err (Fault f)) = f ≡ ProcessLimit
StartsAs (Err Wanted) (Err NoMemory) = Unit {0}
StartsAs added result = ⊥
