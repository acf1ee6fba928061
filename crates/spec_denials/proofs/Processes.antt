-- What each primitive of processes asks for.
use Rattle.std.proofs.Common.{ℕ, ℤ, pos, negsuc, ◌+◌, Bool, true, false, cond, List, [], ◌∷◌, ◌++◌, take, drop, length, Option, Some, None, refl, sym, subst}
use Rattle.std.specs.Option.{option_or, option_map_or}
use Rattle.std.specs.Prelude.{nat_lt, nat_le, is_none, ◌||◌}
use Rattle.muck_model.specs.Bytes.{text_most}
use Rattle.spec_live.specs.Objects.{is_program, object_at}
use Rattle.spec_live.specs.Lives.{Live}
use Rattle.spec_rights.specs.declared.act.Actor.{Actor}
use Rattle.spec_rights.specs.declared.act.Act.{Act}
use Rattle.spec_rights.specs.declared.act.Act.TheVariants.{EndProcess, Call as CallAct}
use Rattle.spec_rights.specs.Verdict.{verdict}
use Rattle.muf_model.specs.declared.fault.MufFault.{MufFault}
use Rattle.muf_model.specs.declared.fault.MufFault.TheVariants.{StackFull, BadType, BadArgument, BadSleep, CannotRead, TextTooLong, TooHeavy}
use Rattle.muf_model.specs.declared.prims.Primitive.{Primitive}
use Rattle.muf_model.specs.declared.prims.Primitive.TheVariants.{Call, Fork, Sleep, Read, Kill, Pid, IsPid, Queue as QueuePrim, Mode as ModePrim, SetMode, Preempt as PreemptPrim, Foreground as ForegroundPrim, Background as BackgroundPrim, SysTime, Random, EventSend, EventWait, EventCount, Prog, Trig, Caller, Cmd}
use Rattle.muf_model.specs.Answer.{stack_most}
use Rattle.muf_model.specs.Datum.{Datum, int, text, object}
use Rattle.muf_model.specs.Needs.{Needs}
use Rattle.muf_model.specs.Prims.{primitive_level}
use Rattle.muf_model.specs.Values.{value_fits}
use Rattle.spec_prims.specs.Asking.{object_numbered, fault_of_denial}
use Rattle.spec_prims.specs.Shared.{fault_by}
use Rattle.muck_queue.specs.declared.mode.Mode.{Mode}
use Rattle.muck_queue.specs.declared.mode.Mode.TheVariants.{Preempt, Foreground, Background}
use Rattle.muck_queue.specs.declared.process.Process.{Process}
use Rattle.muck_queue.specs.Queues.{Queue, process, on_process, without_process, is_background, process_in_mode, told_event, events_most}
use Rattle.spec_processes.specs.declared.place.Place.{Place}
use Rattle.spec_processes.specs.ProcessRows.{Effect, gives, waits, forks, enters, starts, refuses, effect_unless, effect_fitting, upon, ProcessDoing, is_pid, mode_numbered, mode_set, set_mode, sleep, line_read, kill_done, kill, event_name, event_data, event_sent, event_send, oldest, program_fault, call_fault, program_call, program_starting, queue, process_row, needs_at, taken_at, done_in, processed}
use Rattle.spec_denials.specs.Acts.{acts_with}
use Rattle.spec_denials.specs.Asked.{first_denied, FaultNames}
use Rattle.spec_denials.specs.Processes.{kill_acts, calls, queues, own_process_acts, process_acts, EffectNames}
use Rattle.spec_denials.proofs.Naming.{TestNames, Plain, plain_if, rule_of, tests_verdict, fault_or, fault_plain, denied_with, names_first}

effects_unless : (r s : Option ℕ) (o : Option MufFault) (e : Effect) → TestNames r o → EffectNames s e → EffectNames (option_or r s) (effect_unless o e)
effects_unless r s None e h k = subst (λ x. EffectNames (option_or x s) e) (sym h) k
effects_unless r s (Some f) e h k = fault_or r s f h

effects_if : (b : Bool) (r : Option ℕ) (f : MufFault) (e : Effect) → FaultNames r f → EffectNames r e → EffectNames r (cond b (refuses f) e)
effects_if true r f e h k = h
effects_if false r f e h k = k

effects_fitting : (n : ℕ) (rest : List Datum) (r : Option ℕ) (e : Effect) → EffectNames r e → EffectNames r (effect_fitting n rest e)
effects_fitting n rest r e h = effects_if (nat_lt stack_most (n + length rest)) r StackFull e tt h

effects_upon : (rest : List Datum) (r : Option ℕ) (e : Effect) → EffectNames r e → EffectNames r (upon rest e)
effects_upon rest r (gives items w q) h = effects_fitting (length items) rest r (gives (items ++ rest) w q) h
effects_upon rest r (waits n items q) h = effects_fitting n rest r (waits n (items ++ rest) q) h
effects_upon rest r (forks items) h = effects_fitting 1 rest r (forks (items ++ rest)) h
effects_upon rest r (enters items d name) h = h
effects_upon rest r (starts items d seconds argument) h = h
effects_upon rest r (refuses f) h = h

module _ (a : Actor) (w : Live) (q : Queue) where
  abbrev Names : List Act → Effect → Type 0
  Names asked e = EffectNames (first_denied w.objects a asked) e

  effects_leave : (act : Act) (e : Effect) → EffectNames None e → Names (act ∷ []) (effect_unless (fault_of_denial (verdict w.objects a act)) e)
  effects_leave act e h = effects_unless (rule_of (verdict w.objects a act)) None (fault_of_denial (verdict w.objects a act)) e (tests_verdict (verdict w.objects a act)) h

  names_is_pid : (x : Place) (p : Process) (items : List Datum) → Names [] (is_pid x a p items w q)
  names_is_pid x p (int i ∷ []) = refl
  names_is_pid x p _ = tt

  names_mode_set : (mode : Option Mode) (x : Place) (p : Process) → Names [] (mode_set mode x p w q)
  names_mode_set None x p = tt
  names_mode_set (Some Foreground) x p = effects_if (is_none p.descr) None BadArgument (gives [] w (on_process x.pid (process_in_mode Foreground) q)) tt refl
  names_mode_set (Some mode) x p = refl

  names_set_mode : (x : Place) (p : Process) (items : List Datum) → Names [] (set_mode x a p items w q)
  names_set_mode x p (int n ∷ []) = names_mode_set (mode_numbered n) x p
  names_set_mode x p _ = tt

  names_sleep : (x : Place) (p : Process) (items : List Datum) → Names [] (sleep x a p items w q)
  names_sleep x p (int (pos n) ∷ []) = refl
  names_sleep x p (int (negsuc n) ∷ []) = tt
  names_sleep x p _ = tt

  names_read : (x : Place) (p : Process) (items : List Datum) → Names [] (line_read x a p items w q)
  names_read x p items = effects_if (is_background p.mode || is_none p.descr) None CannotRead _ tt refl

  names_killed : (o : Option Process) (i : ℤ) → Names (option_map_or (λ o. EndProcess o.player o.program ∷ []) o []) (kill_done a o i w q)
  names_killed None i = refl
  names_killed (Some other) i = effects_leave (EndProcess other.player other.program) (gives (int (pos 1) ∷ []) w (without_process i q)) refl

  names_kill : (x : Place) (p : Process) (items : List Datum) → Names (kill_acts items q) (kill x a p items w q)
  names_kill x p (int i ∷ []) = names_killed (process i q) i
  names_kill x p _ = tt

  names_fit : (b : Bool) (e : Effect) → Names [] e → Names [] (cond b e (refuses TooHeavy))
  names_fit true e h = h
  names_fit false e h = tt

  names_sent : (x : Place) (o : Option Process) (i : ℤ) (name : List ℕ) (value : Datum) → Names [] (event_sent x o i name value w q)
  names_sent x None i name value = refl
  names_sent x (Some other) i name value =
      effects_if (nat_le events_most (length other.events)) None TooHeavy _ tt
      (effects_if (nat_lt text_most (length name)) None TextTooLong _ tt (names_fit (value_fits value) (gives [] w (on_process i (told_event x.moment (name, value)) q)) refl))

  names_event_send : (x : Place) (p : Process) (items : List Datum) → Names [] (event_send x a p items w q)
  names_event_send x p (value ∷ text s ∷ int i ∷ []) = names_sent x (process i q) i (event_name s) (event_data x a p value)
  names_event_send x p _ = tt

  names_oldest : (events : List (List ℕ × Datum)) (x : Place) → Names [] (oldest events x w q)
  names_oldest [] x = refl
  names_oldest (e ∷ events) x = refl

  plain_program : (d : ℤ) → Plain (program_fault w.objects d)
  plain_program d = plain_if (option_map_or (λ o. is_program o.kind) (object_at (object_numbered d) w.objects) false) None (Some BadType) refl tt

  names_asked : (d : ℤ) (e : Effect) → EffectNames None e → Names (CallAct (object_numbered d) ∷ []) (effect_unless (program_fault w.objects d) (effect_unless (call_fault w.objects a d) e))
  names_asked d e h = effects_unless None _ (program_fault w.objects d) (effect_unless (call_fault w.objects a d) e) (plain_program d) (effects_leave (CallAct (object_numbered d)) e h)

  names_call : (x : Place) (p : Process) (items : List Datum) → Names (calls items) (program_call x a p items w q)
  names_call x p (text name ∷ object d ∷ []) = names_asked d (enters [] d (Some name)) refl
  names_call x p (object d ∷ []) = names_asked d (enters [] d None) refl
  names_call x p _ = tt

  names_late : (o : Option MufFault) (r : Option ℕ) → Plain o → EffectNames r (effect_unless o (refuses BadSleep))
  names_late None r h = tt
  names_late (Some f) r h = fault_plain f r h

  names_starting : (d n : ℤ) (argument : List ℕ) → Names (CallAct (object_numbered d) ∷ []) (program_starting w a d n argument)
  names_starting d (pos n) argument = names_asked d (starts [] d n argument) refl
  names_starting d (negsuc n) argument = names_late (program_fault w.objects d) _ (plain_program d)

  names_queue : (x : Place) (p : Process) (items : List Datum) → Names (queues items) (queue x a p items w q)
  names_queue x p (text s ∷ object d ∷ int i ∷ []) = names_starting d i s
  names_queue x p _ = tt

  abbrev RowAsks : (List Datum → List Act) → Option ProcessDoing → Type 0
  RowAsks own None = Unit {0}
  RowAsks own (Some doing) = (x : Place) (p : Process) (items : List Datum) → Names (own items) (doing x a p items w q)

  asks_row : (p : Primitive) → RowAsks (λ items. own_process_acts p items q) (process_row p)
  asks_row Call = names_call
  asks_row Fork = λ x p items. refl
  asks_row Sleep = names_sleep
  asks_row Read = names_read
  asks_row Kill = names_kill
  asks_row Pid = λ x p items. refl
  asks_row IsPid = names_is_pid
  asks_row QueuePrim = names_queue
  asks_row ModePrim = λ x p items. refl
  asks_row SetMode = names_set_mode
  asks_row PreemptPrim = λ x p items. names_mode_set (Some Preempt) x p
  asks_row ForegroundPrim = λ x p items. names_mode_set (Some Foreground) x p
  asks_row BackgroundPrim = λ x p items. names_mode_set (Some Background) x p
  asks_row SysTime = λ x p items. refl
  asks_row Random = λ x p items. refl
  asks_row EventSend = names_event_send
  asks_row EventWait = λ x p items. names_oldest p.events x
  asks_row EventCount = λ x p items. refl
  asks_row Prog = λ x p items. refl
  asks_row Trig = λ x p items. refl
  asks_row Caller = λ x p items. refl
  asks_row Cmd = λ x p items. refl
  asks_row _ = tt

  names_with : (needs : Option Needs) (level : ℕ) (own : List Act) (e : Effect) (rest : List Datum) (locked : ℕ) (stack : List Datum) → Names own e → Names (acts_with needs level stack own) (effect_unless (fault_by needs level None a locked stack w) (upon rest e))
  names_with None level own e rest locked stack h = tt
  names_with (Some needs) level own e rest locked stack h =
      subst (λ r. EffectNames r (effect_unless (fault_by (Some needs) level None a locked stack w) (upon rest e))) (denied_with w.objects a needs level stack own)
      (effects_unless _ (first_denied w.objects a own) (fault_by (Some needs) level None a locked stack w) (upon rest e) (names_first needs level None a locked stack w refl) (effects_upon rest _ e h))

  asks_done : (own : Option Process) (row : Option ProcessDoing) (p : Primitive) (x : Place) (locked : ℕ) (stack : List Datum) → RowAsks (λ items. own_process_acts p items q) row →
      Names (process_acts p stack q) (done_in own row p x a locked stack w q)
  asks_done (Some own) (Some doing) p x locked stack h =
      let items : List Datum = take (taken_at p stack) stack in
      names_with (needs_at p stack) (primitive_level p) (own_process_acts p items q) (doing x a own items w q) (drop (taken_at p stack) stack) locked stack (h x own items)
  asks_done None row p x locked stack h = tt
  asks_done (Some own) None p x locked stack h = tt

-- Where one of them is denied, the first of the acts that it asks for and that is denied, is denied by that rule; and where it goes on, each is allowed.
pub processed_names : (p : Primitive) (x : Place) (a : Actor) (locked : ℕ) (stack : List Datum) (w : Live) (q : Queue) → EffectNames (first_denied w.objects a (process_acts p stack q)) (processed p x a locked stack w q)
unfolding processed
processed_names p x a locked stack w q = asks_done a w q (process x.pid q) (process_row p) p x locked stack (asks_row a w q p)
