-- How primitives of processes leave the mode and the section of their process.
use Rattle.std.proofs.Common.{◌≡◌, ℕ, ◌+◌, ◌≤◌, ℤ, pos, negsuc, suc, Bool, true, ◌||◌, cond, List, [], ◌∷◌, ◌++◌, length, refl, sym, ◌∙◌, ap, subst, Option, Some, None, is_none, nat_le, nat_lt}
use Rattle.std.specs.Option.{option_map}
use Rattle.std.proofs.lemmas.Bool.{cond_both, cond-true}
use Rattle.muck_model.specs.Bytes.{text_most}
use Rattle.spec_live.specs.Lives.{Live}
use Rattle.spec_rights.specs.declared.act.Actor.{Actor}
use Rattle.muf_model.specs.declared.fault.MufFault.{MufFault}
use Rattle.muf_model.specs.declared.fault.MufFault.TheVariants.{StackFull, CannotRead}
use Rattle.muf_model.specs.declared.prims.Primitive.{Primitive}
use Rattle.muf_model.specs.declared.prims.Primitive.TheVariants.{Call, Fork, Sleep, Read, Kill, Pid, IsPid, Queue as QueuePrim, Mode as ModePrim, SetMode, Preempt as PreemptPrim, Foreground as ForegroundPrim, Background as BackgroundPrim, SysTime, Random, EventSend, EventWait, EventCount, Prog, Trig, Caller, Cmd}
use Rattle.muf_model.specs.Answer.{stack_most}
use Rattle.muf_model.specs.Datum.{Datum, int, text, object}
use Rattle.muf_model.specs.Values.{value_fits}
use Rattle.muck_queue.specs.declared.mode.Mode.{Mode}
use Rattle.muck_queue.specs.declared.mode.Mode.TheVariants.{Preempt, Foreground, Background}
use Rattle.muck_queue.specs.declared.mode.Wait.TheVariants.{ForLine, ForEvent}
use Rattle.muck_queue.specs.declared.process.Process.{Process}
use Rattle.muck_queue.specs.Queues.{Queue, process, on_process, without_process, is_preempt, is_background, resting, sleeping, process_in_mode, told_event, without_event, events_most}
use Rattle.muck_queue.specs.inner.Numbered.{IsNumbered}
use Rattle.muck_queue.proofs.Changed.{process_changed}
use Rattle.spec_processes.specs.declared.place.Place.{Place}
use Rattle.spec_processes.specs.ProcessRows.{Effect, gives, waits, forks, enters, starts, refuses, ProcessDoing, effect_unless, effect_fitting, upon, mode_numbered, mode_set, is_pid, set_mode, sleep, seconds_later, line_read, kill_done, kill, event_name, event_data, event_sent, event_send, oldest, program_fault, call_fault, program_entering, program_call, program_starting, queue, process_row, done_in, processed}
use Rattle.spec_events.proofs.Modes.{Holds, Fits, Seated, fits_seated, fits_less, numbered_changed, fits_without, fits_changed}

-- A process may go on so: in preempt as many units are left as its section needs for the one that is too many. Before a unit
-- changes its mode, also a section that would begin now has as many.
abbrev pub GoesOn : ℕ → ℕ → Mode → ℕ → Type 0
GoesOn most left mode section = is_preempt mode ≡ true → suc most ≤ section + left

abbrev pub MayChange : ℕ → ℕ → Mode → ℕ → Type 0
MayChange most left mode section = suc most ≤ cond (is_preempt mode) section 0 + left

pub goes_on : (most left : ℕ) (mode : Mode) (section : ℕ) → MayChange most left mode section → GoesOn most left mode section
goes_on most left mode section h e = subst (λ n. suc most ≤ n + left) (cond-true _ _ _ e) h

-- what a primitive leaves
abbrev pub Leaves : ℕ → ℕ → ℤ → Effect → Type 0
Leaves most left pid (gives stack w q) = Fits (GoesOn most left) pid q
Leaves most left pid (waits n stack q) = IsNumbered q
Leaves most left pid effect = Unit {0}

module _ (most left : ℕ) (x : Place) (a : Actor) (w : Live) (q : Queue) (h : Seated (MayChange most left) x.pid q) where
  abbrev Left : Effect → Type 0
  Left effect = Leaves most left x.pid effect

  same : Fits (GoesOn most left) x.pid q
  same = fits_less (MayChange most left) (GoesOn most left) x.pid q (goes_on most left) (fits_seated (MayChange most left) x.pid q h)

  moded : (mode : Mode) → Fits (GoesOn most left) x.pid (on_process x.pid (process_in_mode mode) q)
  moded mode = record {
    numbered = numbered_changed x.pid (process_in_mode mode) (λ p. refl) q h.numbered;
    holds = subst (Holds (GoesOn most left)) (sym (process_changed x.pid (process_in_mode mode) (λ p. refl) q ∙ ap (option_map (process_in_mode mode)) h.found)) (λ e. h.holds);
  }

  eventless : Fits (GoesOn most left) x.pid (on_process x.pid without_event q)
  eventless = fits_changed (GoesOn most left) x.pid x.pid without_event q (λ p. refl) (λ p k. k) same

  rests : (f : Process → Process) → ((p : Process) → (f p).number ≡ p.number) → IsNumbered (on_process x.pid f q)
  rests f k = numbered_changed x.pid f k q h.numbered

  behind_test : (o : Option MufFault) (e : Effect) → Left e → Left (effect_unless o e)
  behind_test None e k = k
  behind_test (Some f) e k = tt

  either : (b : Bool) (d e : Effect) → Left d → Left e → Left (cond b d e)
  either b d e k l = cond_both b d e Left (λ p. k) (λ p. l)

  has_room : (n : ℕ) (rest : List Datum) (e : Effect) → Left e → Left (effect_fitting n rest e)
  has_room n rest e k = either (nat_lt stack_most (n + length rest)) (refuses StackFull) e tt k

  upon_rest : (rest : List Datum) (e : Effect) → Left e → Left (upon rest e)
  upon_rest rest (gives items v r) k = has_room (length items) rest (gives (items ++ rest) v r) k
  upon_rest rest (waits n items r) k = has_room n rest (waits n (items ++ rest) r) k
  upon_rest rest (forks items) k = has_room 1 rest (forks (items ++ rest)) tt
  upon_rest rest (enters items d name) k = tt
  upon_rest rest (starts items d seconds argument) k = tt
  upon_rest rest (refuses f) k = tt

  -- Rows.

  pids : (p : Process) (items : List Datum) → Left (is_pid x a p items w q)
  pids p (int i ∷ []) = same
  pids p items = tt

  sets_mode : (o : Option Mode) (p : Process) → Left (mode_set o x p w q)
  sets_mode None p = tt
  sets_mode (Some Preempt) p = moded Preempt
  sets_mode (Some Foreground) p = either (is_none p.descr) _ _ tt (moded Foreground)
  sets_mode (Some Background) p = moded Background

  sets : (p : Process) (items : List Datum) → Left (set_mode x a p items w q)
  sets p (int n ∷ []) = sets_mode (mode_numbered n) p
  sets p items = tt

  sleeps : (p : Process) (items : List Datum) → Left (sleep x a p items w q)
  sleeps p (int (pos n) ∷ []) = rests (sleeping (seconds_later x.moment n)) (λ p. refl)
  sleeps p (int (negsuc n) ∷ []) = tt
  sleeps p items = tt

  reads : (p : Process) (items : List Datum) → Left (line_read x a p items w q)
  reads p items = either (is_background p.mode || is_none p.descr) (refuses CannotRead) (waits 1 [] (on_process x.pid (resting ForLine) q)) tt (rests (resting ForLine) (λ p. refl))

  kills_one : (o : Option Process) (i : ℤ) → Left (kill_done a o i w q)
  kills_one None i = same
  kills_one (Some other) i = behind_test _ (gives (int (pos 1) ∷ []) w (without_process i q)) (fits_without (GoesOn most left) x.pid i q same)

  kills : (p : Process) (items : List Datum) → Left (kill x a p items w q)
  kills p (int i ∷ []) = kills_one (process i q) i
  kills p items = tt

  sends_to : (o : Option Process) (i : ℤ) (name : List ℕ) (value : Datum) → Left (event_sent x o i name value w q)
  sends_to None i name value = same
  sends_to (Some other) i name value =
      either (nat_le events_most (length other.events)) _ _ tt
      (either (nat_lt text_most (length name)) _ _ tt
      (either (value_fits value) _ _ (fits_changed (GoesOn most left) x.pid i (told_event x.moment (name, value)) q (λ p. refl) (λ p k. k) same) tt))

  sends : (p : Process) (items : List Datum) → Left (event_send x a p items w q)
  sends p (value ∷ text s ∷ int i ∷ []) = sends_to (process i q) i (event_name s) (event_data x a p value)
  sends p items = tt

  takes_oldest : (events : List (List ℕ × Datum)) → Left (oldest events x w q)
  takes_oldest [] = rests (resting ForEvent) (λ p. refl)
  takes_oldest (e ∷ events) = eventless

  enters_word : (d : ℤ) (name : Option (List ℕ)) → Left (program_entering w a d name)
  enters_word d name = behind_test (program_fault w.objects d) _ (behind_test (call_fault w.objects a d) (enters [] d name) tt)

  calls : (p : Process) (items : List Datum) → Left (program_call x a p items w q)
  calls p (text name ∷ object d ∷ []) = enters_word d (Some name)
  calls p (object d ∷ []) = enters_word d None
  calls p items = tt

  starts_later : (d i : ℤ) (argument : List ℕ) → Left (program_starting w a d i argument)
  starts_later d (pos n) argument = behind_test (program_fault w.objects d) _ (behind_test (call_fault w.objects a d) (starts [] d n argument) tt)
  starts_later d (negsuc n) argument = behind_test (program_fault w.objects d) _ tt

  queues : (p : Process) (items : List Datum) → Left (queue x a p items w q)
  queues p (text s ∷ object d ∷ int i ∷ []) = starts_later d i s
  queues p items = tt

  abbrev RowLeaves : Option ProcessDoing → Type 0
  RowLeaves None = Unit {0}
  RowLeaves (Some doing) = (p : Process) (items : List Datum) → Left (doing x a p items w q)

  rows : (p : Primitive) → RowLeaves (process_row p)
  rows Call = calls
  rows Fork = λ p items. tt
  rows Sleep = sleeps
  rows Read = reads
  rows Kill = kills
  rows Pid = λ p items. same
  rows IsPid = pids
  rows QueuePrim = queues
  rows ModePrim = λ p items. same
  rows SetMode = sets
  rows PreemptPrim = λ p items. sets_mode (Some Preempt) p
  rows ForegroundPrim = λ p items. sets_mode (Some Foreground) p
  rows BackgroundPrim = λ p items. sets_mode (Some Background) p
  rows SysTime = λ p items. same
  rows Random = λ p items. same
  rows EventSend = sends
  rows EventWait = λ p items. takes_oldest p.events
  rows EventCount = λ p items. same
  rows Prog = λ p items. same
  rows Trig = λ p items. same
  rows Caller = λ p items. same
  rows Cmd = λ p items. same
  rows p = tt

  done_leaves : (own : Option Process) (o : Option ProcessDoing) (p : Primitive) (locked : ℕ) (stack : List Datum) → RowLeaves o → Left (done_in own o p x a locked stack w q)
  done_leaves None None p locked stack r = tt
  done_leaves None (Some doing) p locked stack r = tt
  done_leaves (Some own) None p locked stack r = tt
  done_leaves (Some own) (Some doing) p locked stack r = behind_test _ _ (upon_rest _ _ (r own _))

  pub processed_leaves : (p : Primitive) (locked : ℕ) (stack : List Datum) → Left (processed p x a locked stack w q)
  unfolding processed
  processed_leaves p locked stack = done_leaves (process x.pid q) (process_row p) p locked stack (rows p)
