-- What is taken where a word is to be entered or a program to be started.
use Rattle.std.proofs.Common.{◌≡◌, ℕ, ℤ, pos, negsuc, Bool, true, false, cond, List, [], ◌∷◌, length, take, refl, sym, subst, Option, Some, None}
use Rattle.std.specs.Prelude.{◌||◌, nat_lt, nat_le, is_none}
use Rattle.muck_model.specs.Bytes.{text_most}
use Rattle.spec_live.specs.Lives.{Live}
use Rattle.spec_rights.specs.declared.act.Actor.{Actor}
use Rattle.spec_rights.specs.declared.act.Act.TheVariants.{EndProcess}
use Rattle.spec_rights.specs.Verdict.{verdict}
use Rattle.muf_model.specs.declared.fault.MufFault.{MufFault}
use Rattle.muf_model.specs.declared.fault.MufFault.TheVariants.{BadArgument, BadSleep, CannotRead, TextTooLong, TooHeavy}
use Rattle.muf_model.specs.declared.prims.Primitive.{Primitive}
use Rattle.muf_model.specs.declared.prims.Primitive.TheVariants.{Call, Fork, Sleep, Read, Kill, Pid, IsPid, Queue as QueuePrim, Mode as ModePrim, SetMode, Preempt as PreemptPrim, Foreground as ForegroundPrim, Background as BackgroundPrim, SysTime, Random, EventSend, EventWait, EventCount, Prog, Trig, Caller, Cmd}
use Rattle.muf_model.specs.Datum.{Datum, int, text, object}
use Rattle.muf_model.specs.Values.{value_fits}
use Rattle.muck_queue.specs.declared.mode.Mode.{Mode}
use Rattle.muck_queue.specs.declared.mode.Mode.TheVariants.{Foreground}
use Rattle.spec_prims.specs.Asking.{fault_of_denial}
use Rattle.muck_queue.specs.declared.mode.Wait.TheVariants.{ForLine}
use Rattle.muck_queue.specs.declared.process.Process.{Process}
use Rattle.muck_queue.specs.Queues.{Queue, process, on_process, without_process, resting, process_in_mode, told_event, events_most, is_background}
use Rattle.spec_processes.specs.declared.place.Place.{Place}
use Rattle.spec_processes.specs.ProcessRows.{Effect, gives, waits, enters, starts, refuses, effect_unless, is_pid, mode_numbered, mode_set, set_mode, sleep, kill_done, kill, event_name, event_data, event_sent, event_send, oldest, program_fault, call_fault, program_call, program_starting, queue, process_row, taken_at}
use Rattle.prim_proc.specs.inner.Applied.{called_items}
use Rattle.prim_proc.specs.inner.Plans.{TakesAll, effect_of, does_of}
use Rattle.prim_proc.specs.declared.plan.Plan.{Plan}
use Rattle.prim_proc.specs.declared.plan.Plan.TheVariants.{Enter, Start}

-- so many items are taken by what enters a word, or starts a program
abbrev Asks : ℕ → Effect → Type 0
Asks n (enters items d name) = n ≡ called_items name
Asks n (starts items d seconds argument) = n ≡ 3
Asks n effect = Unit {0}

asks_unless : (n : ℕ) (o : Option MufFault) (effect : Effect) → Asks n effect → Asks n (effect_unless o effect)
asks_unless n None effect h = h
asks_unless n (Some f) effect h = tt

asks_if : (n : ℕ) (b : Bool) (f : MufFault) (effect : Effect) → Asks n effect → Asks n (cond b (refuses f) effect)
asks_if n true f effect h = tt
asks_if n false f effect h = h

-- A line for each row.

module _ (n : ℕ) (x : Place) (a : Actor) (p : Process) (w : Live) (q : Queue) where
  asks_is_pid : (items : List Datum) → Asks n (is_pid x a p items w q)
  asks_is_pid (int i ∷ []) = tt
  asks_is_pid _ = tt

  asks_mode_set : (mode : Option Mode) → Asks n (mode_set mode x p w q)
  asks_mode_set None = tt
  asks_mode_set (Some Foreground) = asks_if n (is_none p.descr) BadArgument (gives [] w (on_process x.pid (process_in_mode Foreground) q)) tt
  asks_mode_set (Some mode) = tt

  asks_set_mode : (items : List Datum) → Asks n (set_mode x a p items w q)
  asks_set_mode (int i ∷ []) = asks_mode_set (mode_numbered i)
  asks_set_mode _ = tt

  asks_sleep : (items : List Datum) → Asks n (sleep x a p items w q)
  asks_sleep (int (pos i) ∷ []) = tt
  asks_sleep (int (negsuc i) ∷ []) = tt
  asks_sleep _ = tt

  asks_killed : (o : Option Process) (i : ℤ) → Asks n (kill_done a o i w q)
  asks_killed None i = tt
  asks_killed (Some other) i = asks_unless n (fault_of_denial (verdict w.objects a (EndProcess other.player other.program))) (gives (int (pos 1) ∷ []) w (without_process i q)) tt

  asks_kill : (items : List Datum) → Asks n (kill x a p items w q)
  asks_kill (int i ∷ []) = asks_killed (process i q) i
  asks_kill _ = tt

  asks_fit : (b : Bool) (v : Queue) → Asks n (cond b (gives [] w v) (refuses TooHeavy))
  asks_fit true v = tt
  asks_fit false v = tt

  asks_sent : (o : Option Process) (i : ℤ) (name : List ℕ) (value : Datum) → Asks n (event_sent x o i name value w q)
  asks_sent None i name value = tt
  asks_sent (Some other) i name value =
      let fit : Effect = cond (value_fits value) (gives [] w (on_process i (told_event x.moment (name, value)) q)) (refuses TooHeavy) in
      asks_if n (nat_le events_most (length other.events)) TooHeavy (cond (nat_lt text_most (length name)) (refuses TextTooLong) fit)
      (asks_if n (nat_lt text_most (length name)) TextTooLong fit (asks_fit (value_fits value) (on_process i (told_event x.moment (name, value)) q)))

  asks_event_send : (items : List Datum) → Asks n (event_send x a p items w q)
  asks_event_send (value ∷ text s ∷ int i ∷ []) = asks_sent (process i q) i (event_name s) (event_data x a p value)
  asks_event_send _ = tt

  asks_oldest : (events : List (List ℕ × Datum)) → Asks n (oldest events x w q)
  asks_oldest [] = tt
  asks_oldest (e ∷ events) = tt

module _ (x : Place) (a : Actor) (p : Process) (w : Live) (q : Queue) where
  asks_asked : (n : ℕ) (d : ℤ) (effect : Effect) → Asks n effect → Asks n (effect_unless (program_fault w.objects d) (effect_unless (call_fault w.objects a d) effect))
  asks_asked n d effect h = asks_unless n (program_fault w.objects d) (effect_unless (call_fault w.objects a d) effect) (asks_unless n (call_fault w.objects a d) effect h)

  asks_call : (stack : List Datum) → Asks (taken_at Call stack) (program_call x a p (take (taken_at Call stack) stack) w q)
  asks_call (text name ∷ object d ∷ rest) = asks_asked 2 d (enters [] d (Some name)) refl
  asks_call (object d ∷ rest) = asks_asked 1 d (enters [] d None) refl
  asks_call _ = tt

  asks_starting : (d n : ℤ) (argument : List ℕ) → Asks 3 (program_starting w a d n argument)
  asks_starting d (pos n) argument = asks_asked 3 d (starts [] d n argument) refl
  asks_starting d (negsuc n) argument = asks_unless 3 (program_fault w.objects d) (refuses BadSleep) tt

  asks_queue : (items : List Datum) → Asks 3 (queue x a p items w q)
  asks_queue (text s ∷ object d ∷ int i ∷ []) = asks_starting d i s
  asks_queue _ = tt

  asks_row : (prim : Primitive) (stack : List Datum) → Asks (taken_at prim stack) (does_of (process_row prim) x a p (take (taken_at prim stack) stack) w q)
  asks_row Call stack = asks_call stack
  asks_row Fork stack = tt
  asks_row Sleep stack = asks_sleep (taken_at Sleep stack) x a p w q (take (taken_at Sleep stack) stack)
  asks_row Read stack = asks_if (taken_at Read stack) (is_background p.mode || is_none p.descr) CannotRead (waits 1 [] (on_process x.pid (resting ForLine) q)) tt
  asks_row Kill stack = asks_kill (taken_at Kill stack) x a p w q (take (taken_at Kill stack) stack)
  asks_row Pid stack = tt
  asks_row IsPid stack = asks_is_pid (taken_at IsPid stack) x a p w q (take (taken_at IsPid stack) stack)
  asks_row QueuePrim stack = asks_queue (take (taken_at QueuePrim stack) stack)
  asks_row ModePrim stack = tt
  asks_row SetMode stack = asks_set_mode (taken_at SetMode stack) x a p w q (take (taken_at SetMode stack) stack)
  asks_row PreemptPrim stack = tt
  asks_row ForegroundPrim stack = asks_mode_set (taken_at ForegroundPrim stack) x a p w q (Some Foreground)
  asks_row BackgroundPrim stack = tt
  asks_row SysTime stack = tt
  asks_row Random stack = tt
  asks_row EventSend stack = asks_event_send (taken_at EventSend stack) x a p w q (take (taken_at EventSend stack) stack)
  asks_row EventWait stack = asks_oldest (taken_at EventWait stack) x a p w q p.events
  asks_row EventCount stack = tt
  asks_row Prog stack = tt
  asks_row Trig stack = tt
  asks_row Caller stack = tt
  asks_row Cmd stack = tt
  asks_row _ stack = tt

asks_takes : (n : ℕ) (plan : Plan) (x : Place) (w : Live) (q : Queue) → Asks n (effect_of plan x w q) → TakesAll plan n
asks_takes n (Enter program word) x w q h = h
asks_takes n (Start program delay argument) x w q h = h
asks_takes n _ x w q h = tt

-- a plan for a primitive takes all that it takes
pub takes_all : (prim : Primitive) (x : Place) (a : Actor) (p : Process) (stack : List Datum) (w : Live) (q : Queue) (plan : Plan) →
    effect_of plan x w q ≡ does_of (process_row prim) x a p (take (taken_at prim stack) stack) w q → TakesAll plan (taken_at prim stack)
takes_all prim x a p stack w q plan e = asks_takes (taken_at prim stack) plan x w q (subst (Asks (taken_at prim stack)) (sym e) (asks_row x a p w q prim stack))
