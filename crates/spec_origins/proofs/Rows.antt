-- What the primitives of processes make of the processes.
use Rattle.std.proofs.Common.{◌≡◌, ℕ, ℤ, pos, negsuc, Bool, true, false, cond, List, [], ◌∷◌, ◌++◌, drop, take, length, refl, Option, Some, None, inl}
use Rattle.std.specs.Prelude.{nat_lt, nat_le, is_none, ◌+◌, ◌||◌}
use Rattle.muck_model.specs.Bytes.{text_most}
use Rattle.muck_model.specs.declared.dbref.Dbref.{Dbref}
use Rattle.spec_live.specs.Lives.{Live}
use Rattle.spec_rights.specs.declared.act.Actor.{Actor}
use Rattle.spec_rights.specs.declared.act.Act.TheVariants.{EndProcess, Call as CallAct}
use Rattle.spec_rights.specs.Verdict.{verdict}
use Rattle.muf_model.specs.declared.fault.MufFault.{MufFault}
use Rattle.muf_model.specs.declared.fault.MufFault.TheVariants.{StackFull, BadArgument, BadSleep, CannotRead, TextTooLong, TooHeavy}
use Rattle.muf_model.specs.declared.prims.Primitive.{Primitive}
use Rattle.muf_model.specs.declared.prims.Primitive.TheVariants.{Call, Fork, Sleep, Read, Kill, Pid, IsPid, Queue as QueuePrim, Mode as ModePrim, SetMode, Preempt as PreemptPrim, Foreground as ForegroundPrim, Background as BackgroundPrim, SysTime, Random, EventSend, EventWait, EventCount, Prog, Trig, Caller, Cmd}
use Rattle.muf_model.specs.Answer.{stack_most}
use Rattle.muf_model.specs.Datum.{Datum, int, text, object}
use Rattle.muf_model.specs.Prims.{primitive_level}
use Rattle.muf_model.specs.Values.{value_fits}
use Rattle.spec_prims.specs.Asking.{object_numbered, fault_of_denial}
use Rattle.spec_prims.specs.Shared.{fault_by}
use Rattle.spec_prims.proofs.Opens.{no_denial}
use Rattle.muck_queue.specs.declared.mode.Mode.{Mode}
use Rattle.muck_queue.specs.declared.mode.Mode.TheVariants.{Preempt, Foreground, Background}
use Rattle.muck_queue.specs.declared.mode.Wait.TheVariants.{ForLine, ForEvent}
use Rattle.muck_queue.specs.declared.process.Process.{Process}
use Rattle.muck_queue.specs.Queues.{Queue, process, on_process, without_process, resting, sleeping, process_in_mode, told_event, without_event, events_most, is_background}
use Rattle.spec_processes.specs.declared.place.Place.{Place}
use Rattle.spec_processes.specs.ProcessRows.{Effect, gives, waits, forks, enters, starts, refuses, effect_unless, effect_fitting, upon, ProcessDoing, is_pid, mode_set, mode_numbered, set_mode, sleep, seconds_later, line_read, kill_done, kill, event_name, event_data, event_sent, event_send, oldest, program_fault, call_fault, program_entering, program_call, program_starting, queue, process_row, needs_at, taken_at, done_in, processed}
use Rattle.spec_origins.specs.Origins.{GoesOn}
use Rattle.spec_origins.proofs.Going.{goes_in_mode}
use Rattle.spec_origins.proofs.Seats.{Sits, sits_order, sits_draw}

-- Where Q is so of the processes, it is so behind a primitive that is used in the process of this place: what it changes of its own process keeps Q, and so does an event that any is sent, and one
-- that ends.
module _ (Q : Queue → Type 0) (Lost : Dbref → Type 0) (x : Place) (own : (f : Process → Process) → ((p : Process) → GoesOn Lost p (f p)) → (q : Queue) → Q q → Q (on_process x.pid f q))
    (told : (pid : ℤ) (second : ℕ) (event : List ℕ × Datum) (q : Queue) → Q q → Q (on_process pid (told_event second event) q)) (gone : (pid : ℤ) (q : Queue) → Q q → Q (without_process pid q)) where
  -- and what is started is open to who acts
  abbrev pub Leaves : Actor → Live → Effect → Type 0
  Leaves a w (gives stack live queue) = Q queue × Sits w live
  Leaves a w (waits n stack queue) = Q queue
  Leaves a w (starts stack d seconds argument) = verdict w.objects a (CallAct (object_numbered d)) ≡ None
  Leaves a w effect = Unit {0}

  module _ (a : Actor) (w : Live) (q : Queue) (h : Q q) where
    leaves_unless : (o : Option MufFault) (effect : Effect) → (o ≡ None → Leaves a w effect) → Leaves a w (effect_unless o effect)
    leaves_unless None effect k = k refl
    leaves_unless (Some f) effect k = tt

    leaves_if : (b : Bool) (f : MufFault) (effect : Effect) → Leaves a w effect → Leaves a w (cond b (refuses f) effect)
    leaves_if true f effect k = tt
    leaves_if false f effect k = k

    leaves_fitting : (n : ℕ) (rest : List Datum) (effect : Effect) → Leaves a w effect → Leaves a w (effect_fitting n rest effect)
    leaves_fitting n rest effect k = leaves_if (nat_lt stack_most (n + length rest)) StackFull effect k

    leaves_upon : (rest : List Datum) (effect : Effect) → Leaves a w effect → Leaves a w (upon rest effect)
    leaves_upon rest (gives items v r) k = leaves_fitting (length items) rest (gives (items ++ rest) v r) k
    leaves_upon rest (waits n items r) k = leaves_fitting n rest (waits n (items ++ rest) r) k
    leaves_upon rest (forks items) k = leaves_fitting 1 rest (forks (items ++ rest)) tt
    leaves_upon rest (enters items d name) k = tt
    leaves_upon rest (starts items d seconds argument) k = k
    leaves_upon rest (refuses f) k = tt

    same : Sits w w
    same = sits_order.itself w

    changed : (f : Process → Process) → ((p : Process) → GoesOn Lost p (f p)) → Q (on_process x.pid f q)
    changed f k = own f k q h

    -- A line for each row.

    leaves_is_pid : (p : Process) (items : List Datum) → Leaves a w (is_pid x a p items w q)
    leaves_is_pid p (int i ∷ []) = (h, same)
    leaves_is_pid p _ = tt

    leaves_mode_set : (mode : Option Mode) (p : Process) → Leaves a w (mode_set mode x p w q)
    leaves_mode_set None p = tt
    leaves_mode_set (Some Foreground) p = leaves_if (is_none p.descr) BadArgument (gives [] w (on_process x.pid (process_in_mode Foreground) q)) (changed (process_in_mode Foreground) (goes_in_mode Lost Foreground), same)
    leaves_mode_set (Some mode) p = (changed (process_in_mode mode) (goes_in_mode Lost mode), same)

    leaves_set_mode : (p : Process) (items : List Datum) → Leaves a w (set_mode x a p items w q)
    leaves_set_mode p (int n ∷ []) = leaves_mode_set (mode_numbered n) p
    leaves_set_mode p _ = tt

    leaves_sleep : (p : Process) (items : List Datum) → Leaves a w (sleep x a p items w q)
    leaves_sleep p (int (pos n) ∷ []) =
        changed (sleeping (seconds_later x.moment n)) (λ p. record { number = refl; origin = record { player = refl; program = refl; command = refl; trigger = inl refl }; tied = inl refl })
    leaves_sleep p (int (negsuc n) ∷ []) = tt
    leaves_sleep p _ = tt

    leaves_read : (p : Process) (items : List Datum) → Leaves a w (line_read x a p items w q)
    leaves_read p items =
        leaves_if (is_background p.mode || is_none p.descr) CannotRead (waits 1 [] (on_process x.pid (resting ForLine) q))
        (changed (resting ForLine) (λ p. record { number = refl; origin = record { player = refl; program = refl; command = refl; trigger = inl refl }; tied = inl refl }))

    leaves_killed : (o : Option Process) (pid : ℤ) → Leaves a w (kill_done a o pid w q)
    leaves_killed None pid = (h, same)
    leaves_killed (Some other) pid = leaves_unless (fault_of_denial (verdict w.objects a (EndProcess other.player other.program))) (gives (int (pos 1) ∷ []) w (without_process pid q)) (λ k. (gone pid q h, same))

    leaves_kill : (p : Process) (items : List Datum) → Leaves a w (kill x a p items w q)
    leaves_kill p (int i ∷ []) = leaves_killed (process i q) i
    leaves_kill p _ = tt

    leaves_fit : (b : Bool) (i : ℤ) (name : List ℕ) (value : Datum) → Leaves a w (cond b (gives [] w (on_process i (told_event x.moment (name, value)) q)) (refuses TooHeavy))
    leaves_fit true i name value = (told i x.moment (name, value) q h, same)
    leaves_fit false i name value = tt

    leaves_sent : (o : Option Process) (i : ℤ) (name : List ℕ) (value : Datum) → Leaves a w (event_sent x o i name value w q)
    leaves_sent None i name value = (h, same)
    leaves_sent (Some other) i name value =
        let fit : Effect = cond (value_fits value) (gives [] w (on_process i (told_event x.moment (name, value)) q)) (refuses TooHeavy) in
        leaves_if (nat_le events_most (length other.events)) TooHeavy (cond (nat_lt text_most (length name)) (refuses TextTooLong) fit)
        (leaves_if (nat_lt text_most (length name)) TextTooLong fit (leaves_fit (value_fits value) i name value))

    leaves_event_send : (p : Process) (items : List Datum) → Leaves a w (event_send x a p items w q)
    leaves_event_send p (value ∷ text s ∷ int i ∷ []) = leaves_sent (process i q) i (event_name s) (event_data x a p value)
    leaves_event_send p _ = tt

    leaves_oldest : (events : List (List ℕ × Datum)) → Leaves a w (oldest events x w q)
    leaves_oldest [] = changed (resting ForEvent) (λ p. record { number = refl; origin = record { player = refl; program = refl; command = refl; trigger = inl refl }; tied = inl refl })
    leaves_oldest (e ∷ events) = (changed without_event (λ p. record { number = refl; origin = record { player = refl; program = refl; command = refl; trigger = inl refl }; tied = inl refl }), same)

    leaves_asked : (d : ℤ) (effect : Effect) → (verdict w.objects a (CallAct (object_numbered d)) ≡ None → Leaves a w effect) → Leaves a w (effect_unless (program_fault w.objects d) (effect_unless (call_fault w.objects a d) effect))
    leaves_asked d effect k =
        leaves_unless (program_fault w.objects d) (effect_unless (call_fault w.objects a d) effect)
        (λ e. leaves_unless (call_fault w.objects a d) effect (λ f. k (no_denial (verdict w.objects a (CallAct (object_numbered d))) f)))

    leaves_entering : (d : ℤ) (name : Option (List ℕ)) → Leaves a w (program_entering w a d name)
    leaves_entering d name = leaves_asked d (enters [] d name) (λ e. tt)

    leaves_call : (p : Process) (items : List Datum) → Leaves a w (program_call x a p items w q)
    leaves_call p (text name ∷ object d ∷ []) = leaves_entering d (Some name)
    leaves_call p (object d ∷ []) = leaves_entering d None
    leaves_call p _ = tt

    leaves_starting : (d n : ℤ) (argument : List ℕ) → Leaves a w (program_starting w a d n argument)
    leaves_starting d (pos n) argument = leaves_asked d (starts [] d n argument) (λ e. e)
    leaves_starting d (negsuc n) argument = leaves_unless (program_fault w.objects d) (refuses BadSleep) (λ k. tt)

    leaves_queue : (p : Process) (items : List Datum) → Leaves a w (queue x a p items w q)
    leaves_queue p (text s ∷ object d ∷ int i ∷ []) = leaves_starting d i s
    leaves_queue p _ = tt

    abbrev RowLeaves : Option ProcessDoing → Type 0
    RowLeaves None = Unit {0}
    RowLeaves (Some doing) = (p : Process) (items : List Datum) → Leaves a w (doing x a p items w q)

    leaves_row : (p : Primitive) → RowLeaves (process_row p)
    leaves_row Call = leaves_call
    leaves_row Fork = λ p items. tt
    leaves_row Sleep = leaves_sleep
    leaves_row Read = leaves_read
    leaves_row Kill = leaves_kill
    leaves_row Pid = λ p items. (h, same)
    leaves_row IsPid = leaves_is_pid
    leaves_row QueuePrim = leaves_queue
    leaves_row ModePrim = λ p items. (h, same)
    leaves_row SetMode = leaves_set_mode
    leaves_row PreemptPrim = λ p items. leaves_mode_set (Some Preempt) p
    leaves_row ForegroundPrim = λ p items. leaves_mode_set (Some Foreground) p
    leaves_row BackgroundPrim = λ p items. leaves_mode_set (Some Background) p
    leaves_row SysTime = λ p items. (h, same)
    leaves_row Random = λ p items. (h, sits_draw.law w)
    leaves_row EventSend = leaves_event_send
    leaves_row EventWait = λ p items. leaves_oldest p.events
    leaves_row EventCount = λ p items. (h, same)
    leaves_row Prog = λ p items. (h, same)
    leaves_row Trig = λ p items. (h, same)
    leaves_row Caller = λ p items. (h, same)
    leaves_row Cmd = λ p items. (h, same)
    leaves_row _ = tt

    leaves_done : (o : Option Process) (row : Option ProcessDoing) → RowLeaves row → (p : Primitive) (locked : ℕ) (stack : List Datum) → Leaves a w (done_in o row p x a locked stack w q)
    leaves_done (Some one) (Some doing) l p locked stack =
        let done : Effect = doing x a one (take (taken_at p stack) stack) w q in
        leaves_unless (fault_by (needs_at p stack) (primitive_level p) None a locked stack w) (upon (drop (taken_at p stack) stack) done)
        (λ k. leaves_upon (drop (taken_at p stack) stack) done (l one (take (taken_at p stack) stack)))
    leaves_done None row l p locked stack = tt
    leaves_done (Some one) None l p locked stack = tt

  pub processed_leaves : (p : Primitive) (a : Actor) (locked : ℕ) (stack : List Datum) (w : Live) (q : Queue) → Q q → Leaves a w (processed p x a locked stack w q)
  unfolding processed
  processed_leaves p a locked stack w q h = leaves_done a w q h (process x.pid q) (process_row p) (leaves_row a w q h p) p locked stack
