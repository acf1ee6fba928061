-- What the primitives of processes leave of the world and of the processes.
use Rattle.std.proofs.Common.{◌≡◌, ℕ, ◌+◌, ℤ, pos, negsuc, Bool, true, false, cond, List, [], ◌∷◌, ◌++◌, length, take, drop, refl, arith, Option, Some, None}
use Rattle.std.specs.Prelude.{◌||◌, nat_lt, nat_le, is_none}
use Rattle.muck_model.specs.Bytes.{text_most}
use Rattle.muck_model.specs.declared.dbref.Dbref.{Dbref}
use Rattle.spec_live.specs.Objects.{Entry, same}
use Rattle.spec_live.specs.Lives.{Live, draw, unchanged}
use Rattle.spec_rights.specs.declared.act.Actor.{Actor}
use Rattle.spec_rights.specs.declared.act.Act.TheVariants.{EndProcess}
use Rattle.spec_rights.specs.Levels.{owner_at}
use Rattle.spec_rights.specs.Verdict.{is_master, verdict}
use Rattle.spec_rights.proofs.Licences.{Shows, quiet_unchanged}
use Rattle.spec_rights.proofs.Shown.{quiet_draw}
use Rattle.muf_model.specs.declared.fault.MufFault.{MufFault}
use Rattle.muf_model.specs.declared.fault.MufFault.TheVariants.{StackFull, BadArgument, BadSleep, CannotRead, TextTooLong, TooHeavy}
use Rattle.muf_model.specs.declared.prims.Primitive.{Primitive}
use Rattle.muf_model.specs.declared.prims.Primitive.TheVariants.{Call, Fork, Sleep, Read, Kill, Pid, IsPid, Queue as QueuePrim, Mode as ModePrim, SetMode, Preempt as PreemptPrim, Foreground as ForegroundPrim, Background as BackgroundPrim, SysTime, Random, EventSend, EventWait, EventCount, Prog, Trig, Caller, Cmd}
use Rattle.muf_model.specs.Answer.{stack_most}
use Rattle.muf_model.specs.Datum.{Datum, int, text, object}
use Rattle.muf_model.specs.Values.{value_fits}
use Rattle.muf_model.specs.Prims.{primitive_level}
use Rattle.spec_prims.specs.Shared.{fault_by}
use Rattle.spec_prims.proofs.Opens.{no_denial}
use Rattle.muck_queue.specs.declared.mode.Mode.{Mode}
use Rattle.muck_queue.specs.declared.mode.Mode.TheVariants.{Preempt, Foreground, Background}
use Rattle.muck_queue.specs.declared.mode.Wait.TheVariants.{ForLine, ForEvent}
use Rattle.muck_queue.specs.declared.process.Process.{Process}
use Rattle.muck_queue.specs.Queues.{Queue, process, on_process, without_process, resting, sleeping, process_in_mode, told_event, without_event, events_most, is_background}
use Rattle.spec_processes.specs.declared.place.Place.{Place}
use Rattle.spec_processes.specs.ProcessRows.{Effect, gives, waits, forks, enters, starts, refuses, effect_unless, effect_fitting, upon, ProcessDoing, is_pid, mode_numbered, mode_set, set_mode, seconds_later, sleep, line_read, kill_done, kill, event_name, event_data, event_sent, event_send, oldest, program_fault, call_fault, program_entering, program_call, program_starting, queue, process_row, needs_at, taken_at, done_in, processed}
use Rattle.spec_processes.proofs.Ends.{IsSame, same_so, Stays, stays_itself, stays_changed, stays_without}

-- the actor may end it, by the rule of KILL
abbrev pub EndedBy : Actor → List Entry → Process → Type 0
EndedBy a es p = verdict es a (EndProcess p.player p.program) ≡ None

-- Of the world only random numbers are drawn. The processes are those that were there, but for one that the actor may end.
pub record Lawful (a : Actor) (w : Live) (q : Queue) (v : Live) (r : Queue) : Type 0 where
  pub shows : Shows w v
  pub stays : (pid : ℤ) → Stays (EndedBy a w.objects) (process pid q) (process pid r)
  pub last : r.last ≡ q.last
  pub claims : r.claims ≡ q.claims

abbrev pub Leaves : Actor → Live → Queue → Effect → Type 0
Leaves a w q (gives stack live queue) = Lawful a w q live queue
Leaves a w q (waits n stack queue) = Lawful a w q w queue
Leaves a w q effect = Unit {0}

-- What is tested before.

module _ (a : Actor) (w : Live) (q : Queue) where
  leaves_unless : (o : Option MufFault) (effect : Effect) → (o ≡ None → Leaves a w q effect) → Leaves a w q (effect_unless o effect)
  leaves_unless None effect h = h refl
  leaves_unless (Some f) effect h = tt

  leaves_if : (b : Bool) (f : MufFault) (effect : Effect) → Leaves a w q effect → Leaves a w q (cond b (refuses f) effect)
  leaves_if true f effect h = tt
  leaves_if false f effect h = h

  leaves_fitting : (n : ℕ) (rest : List Datum) (effect : Effect) → Leaves a w q effect → Leaves a w q (effect_fitting n rest effect)
  leaves_fitting n rest effect h = leaves_if (nat_lt stack_most (n + length rest)) StackFull effect h

  leaves_upon : (rest : List Datum) (effect : Effect) → Leaves a w q effect → Leaves a w q (upon rest effect)
  leaves_upon rest (gives items v r) h = leaves_fitting (length items) rest (gives (items ++ rest) v r) h
  leaves_upon rest (waits n items r) h = leaves_fitting n rest (waits n (items ++ rest) r) h
  leaves_upon rest (forks items) h = leaves_fitting 1 rest (forks (items ++ rest)) tt
  leaves_upon rest (enters items d name) h = tt
  leaves_upon rest (starts items d seconds argument) h = tt
  leaves_upon rest (refuses f) h = tt

  -- What is left.

  lawful_same : Lawful a w q w q
  unfolding unchanged
  lawful_same = record { shows = quiet_unchanged.law w; stays = λ pid. stays_itself (EndedBy a w.objects) (process pid q); last = refl; claims = refl }

  lawful_drawn : Lawful a w q (draw w) q
  lawful_drawn = record { shows = quiet_draw.law w; stays = λ pid. stays_itself (EndedBy a w.objects) (process pid q); last = refl; claims = refl }

  lawful_changed : (pid : ℤ) (f : Process → Process) → ((p : Process) → IsSame p (f p)) → Lawful a w q w (on_process pid f q)
  unfolding on_process unchanged
  lawful_changed pid f same = record { shows = quiet_unchanged.law w; stays = stays_changed (EndedBy a w.objects) pid f same q.processes; last = refl; claims = refl }

  lawful_without : (pid : ℤ) (other : Process) → process pid q ≡ Some other → EndedBy a w.objects other → Lawful a w q w (without_process pid q)
  unfolding without_process unchanged
  lawful_without pid other e h = record { shows = quiet_unchanged.law w; stays = λ at. stays_without (EndedBy a w.objects) pid other h q.processes at e; last = refl; claims = refl }

  -- A line for each row.

  leaves_is_pid : (x : Place) (p : Process) (items : List Datum) → Leaves a w q (is_pid x a p items w q)
  leaves_is_pid x p (int i ∷ []) = lawful_same
  leaves_is_pid x p _ = tt

  leaves_mode_set : (mode : Option Mode) (x : Place) (p : Process) → Leaves a w q (mode_set mode x p w q)
  leaves_mode_set None x p = tt
  leaves_mode_set (Some Foreground) x p = leaves_if (is_none p.descr) BadArgument (gives [] w (on_process x.pid (process_in_mode Foreground) q)) (lawful_changed x.pid (process_in_mode Foreground) (λ p. same_so refl refl refl refl))
  leaves_mode_set (Some mode) x p = lawful_changed x.pid (process_in_mode mode) (λ p. same_so refl refl refl refl)

  leaves_set_mode : (x : Place) (p : Process) (items : List Datum) → Leaves a w q (set_mode x a p items w q)
  leaves_set_mode x p (int n ∷ []) = leaves_mode_set (mode_numbered n) x p
  leaves_set_mode x p _ = tt

  leaves_sleep : (x : Place) (p : Process) (items : List Datum) → Leaves a w q (sleep x a p items w q)
  leaves_sleep x p (int (pos n) ∷ []) = lawful_changed x.pid (sleeping (seconds_later x.moment n)) (λ p. same_so refl refl refl refl)
  leaves_sleep x p (int (negsuc n) ∷ []) = tt
  leaves_sleep x p _ = tt

  leaves_read : (x : Place) (p : Process) (items : List Datum) → Leaves a w q (line_read x a p items w q)
  leaves_read x p items = leaves_if (is_background p.mode || is_none p.descr) CannotRead (waits 1 [] (on_process x.pid (resting ForLine) q)) (lawful_changed x.pid (resting ForLine) (λ p. same_so refl refl refl refl))

  leaves_killed : (o : Option Process) (pid : ℤ) → process pid q ≡ o → Leaves a w q (kill_done a o pid w q)
  leaves_killed None pid e = lawful_same
  leaves_killed (Some other) pid e = leaves_unless _ _ (λ h. lawful_without pid other e (no_denial _ h))

  leaves_kill : (x : Place) (p : Process) (items : List Datum) → Leaves a w q (kill x a p items w q)
  leaves_kill x p (int i ∷ []) = leaves_killed (process i q) i refl
  leaves_kill x p _ = tt

  leaves_fit : (b : Bool) (x : Place) (i : ℤ) (name : List ℕ) (value : Datum) → Leaves a w q (cond b (gives [] w (on_process i (told_event x.moment (name, value)) q)) (refuses TooHeavy))
  leaves_fit true x i name value = lawful_changed i (told_event x.moment (name, value)) (λ p. same_so refl refl refl refl)
  leaves_fit false x i name value = tt

  leaves_sent : (x : Place) (o : Option Process) (i : ℤ) (name : List ℕ) (value : Datum) → Leaves a w q (event_sent x o i name value w q)
  leaves_sent x None i name value = lawful_same
  leaves_sent x (Some other) i name value =
      let fit : Effect = cond (value_fits value) (gives [] w (on_process i (told_event x.moment (name, value)) q)) (refuses TooHeavy) in
      leaves_if (nat_le events_most (length other.events)) TooHeavy (cond (nat_lt text_most (length name)) (refuses TextTooLong) fit)
      (leaves_if (nat_lt text_most (length name)) TextTooLong fit (leaves_fit (value_fits value) x i name value))

  leaves_event_send : (x : Place) (p : Process) (items : List Datum) → Leaves a w q (event_send x a p items w q)
  leaves_event_send x p (value ∷ text s ∷ int i ∷ []) = leaves_sent x (process i q) i (event_name s) (event_data x a p value)
  leaves_event_send x p _ = tt

  leaves_oldest : (events : List (List ℕ × Datum)) (x : Place) → Leaves a w q (oldest events x w q)
  leaves_oldest [] x = lawful_changed x.pid (resting ForEvent) (λ p. same_so refl refl refl refl)
  leaves_oldest (e ∷ events) x = lawful_changed x.pid without_event (λ p. same_so refl refl refl refl)

  leaves_asked : (d : ℤ) (effect : Effect) → Leaves a w q effect → Leaves a w q (effect_unless (program_fault w.objects d) (effect_unless (call_fault w.objects a d) effect))
  leaves_asked d effect h = leaves_unless (program_fault w.objects d) (effect_unless (call_fault w.objects a d) effect) (λ e. leaves_unless (call_fault w.objects a d) effect (λ f. h))

  leaves_entering : (d : ℤ) (name : Option (List ℕ)) → Leaves a w q (program_entering w a d name)
  leaves_entering d name = leaves_asked d (enters [] d name) tt

  leaves_call : (x : Place) (p : Process) (items : List Datum) → Leaves a w q (program_call x a p items w q)
  leaves_call x p (text name ∷ object d ∷ []) = leaves_entering d (Some name)
  leaves_call x p (object d ∷ []) = leaves_entering d None
  leaves_call x p _ = tt

  leaves_starting : (d n : ℤ) (argument : List ℕ) → Leaves a w q (program_starting w a d n argument)
  leaves_starting d (pos n) argument = leaves_asked d (starts [] d n argument) tt
  leaves_starting d (negsuc n) argument = leaves_unless (program_fault w.objects d) (refuses BadSleep) (λ h. tt)

  leaves_queue : (x : Place) (p : Process) (items : List Datum) → Leaves a w q (queue x a p items w q)
  leaves_queue x p (text s ∷ object d ∷ int i ∷ []) = leaves_starting d i s
  leaves_queue x p _ = tt

  abbrev RowLeaves : Option ProcessDoing → Type 0
  RowLeaves None = Unit {0}
  RowLeaves (Some doing) = (x : Place) (p : Process) (items : List Datum) → Leaves a w q (doing x a p items w q)

  leaves_row : (p : Primitive) → RowLeaves (process_row p)
  leaves_row Call = leaves_call
  leaves_row Fork = λ x p items. tt
  leaves_row Sleep = leaves_sleep
  leaves_row Read = leaves_read
  leaves_row Kill = leaves_kill
  leaves_row Pid = λ x p items. lawful_same
  leaves_row IsPid = leaves_is_pid
  leaves_row QueuePrim = leaves_queue
  leaves_row ModePrim = λ x p items. lawful_same
  leaves_row SetMode = leaves_set_mode
  leaves_row PreemptPrim = λ x p items. leaves_mode_set (Some Preempt) x p
  leaves_row ForegroundPrim = λ x p items. leaves_mode_set (Some Foreground) x p
  leaves_row BackgroundPrim = λ x p items. leaves_mode_set (Some Background) x p
  leaves_row SysTime = λ x p items. lawful_same
  leaves_row Random = λ x p items. lawful_drawn
  leaves_row EventSend = leaves_event_send
  leaves_row EventWait = λ x p items. leaves_oldest p.events x
  leaves_row EventCount = λ x p items. lawful_same
  leaves_row Prog = λ x p items. lawful_same
  leaves_row Trig = λ x p items. lawful_same
  leaves_row Caller = λ x p items. lawful_same
  leaves_row Cmd = λ x p items. lawful_same
  leaves_row _ = tt

  leaves_done : (own : Option Process) (row : Option ProcessDoing) → RowLeaves row → (p : Primitive) (x : Place) (locked : ℕ) (stack : List Datum) → Leaves a w q (done_in own row p x a locked stack w q)
  leaves_done (Some own) (Some doing) h p x locked stack =
      let done : Effect = doing x a own (take (taken_at p stack) stack) w q in
      leaves_unless (fault_by (needs_at p stack) (primitive_level p) None a locked stack w) (upon (drop (taken_at p stack) stack) done) (λ k. leaves_upon (drop (taken_at p stack) stack) done (h x own (take (taken_at p stack) stack)))
  leaves_done None row h p x locked stack = tt
  leaves_done (Some own) None h p x locked stack = tt

-- what any of them leaves
pub leaves : (p : Primitive) (x : Place) (a : Actor) (locked : ℕ) (stack : List Datum) (w : Live) (q : Queue) → Leaves a w q (processed p x a locked stack w q)
unfolding processed
leaves p x a locked stack w q = leaves_done a w q (process x.pid q) (process_row p) (leaves_row a w q p) p x locked stack

-- the actor may end a process so: it is at the highest level, or its user is the player or the owner of the program
pub ended_by : (a : Actor) (es : List Entry) (player program : Dbref) → verdict es a (EndProcess player program) ≡ None →
    is_master a || (same player a.user || same (owner_at es program) a.user) ≡ true
ended_by a es player program = grind arith
