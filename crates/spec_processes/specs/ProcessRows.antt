-- What the primitives of processes do.
use Rattle.std.specs.Prelude.{ℕ, ◌+◌, ◌/◌, min, ℤ, pos, negsuc, Bool, true, false, ◌||◌, nat_lt, nat_le, is_some, is_none, if◌then◌else◌, List, [], ◌∷◌, ◌++◌, length, take, drop, codes, Option, Some, None}
use Rattle.std.specs.Int.{w32, cast_signed}
use Rattle.std.specs.Option.{option_map_or}
use Rattle.std.specs.Ordering.{int_eq}
use Rattle.muck_model.specs.declared.dbref.Dbref.{Dbref}
use Rattle.spec_live.specs.Objects.{Entry, is_program, object_at}
use Rattle.spec_live.specs.Lives.{Live, draw, random_word}
use Rattle.spec_rights.specs.declared.act.Actor.{Actor}
use Rattle.spec_rights.specs.declared.act.Act.TheVariants.{EndProcess, Call as CallAct}
use Rattle.spec_rights.specs.Verdict.{verdict}
use Rattle.muf_model.specs.declared.fault.MufFault.{MufFault}
use Rattle.muf_model.specs.declared.fault.MufFault.TheVariants.{StackFull, BadType, BadArgument, NotCompiled, BadSleep, CannotRead, TextTooLong, TooHeavy}
use Rattle.muf_model.specs.declared.prims.Family.{Family}
use Rattle.muf_model.specs.declared.prims.Family.TheVariants as kind
use Rattle.muf_model.specs.declared.prims.Primitive.{Primitive}
use Rattle.muf_model.specs.declared.prims.Primitive.TheVariants.{Call, Fork, Sleep, Read, Kill, Pid, IsPid, Queue as QueuePrim, Mode as ModePrim, SetMode, Preempt as PreemptPrim, Foreground as ForegroundPrim, Background as BackgroundPrim, SysTime, Random, EventSend, EventWait, EventCount, Prog, Trig, Caller, Cmd}
use Rattle.muf_model.specs.declared.value.MapKey.{MapKey}
use Rattle.muf_model.specs.declared.value.MapKey.TheVariants.{Name}
use Rattle.muf_model.specs.Answer.{stack_most}
use Rattle.muf_model.specs.Datum.{Datum, int, text, object, dict, pairs_of}
use Rattle.muf_model.specs.Ladder.{wanted}
use Rattle.muf_model.specs.Needs.{Needs, takes_items, a_text, one_there}
use Rattle.muf_model.specs.Prims.{family_of, primitive_level, needs_of}
use Rattle.muf_model.specs.StackRows.{truth_item}
use Rattle.muck_model.specs.Bytes.{text_most}
use Rattle.muf_model.specs.Values.{value_fits}
use Rattle.spec_prims.specs.Asking.{object_numbered, fault_of_denial}
use Rattle.spec_prims.specs.Shared.{fault_by}
use Rattle.spec_prims.specs.Talk.{count_item}
use Rattle.muck_queue.specs.declared.mode.Mode.{Mode}
use Rattle.muck_queue.specs.declared.mode.Mode.TheVariants.{Preempt, Foreground, Background}
use Rattle.muck_queue.specs.declared.mode.Wait.TheVariants.{ForLine, ForEvent}
use Rattle.muck_queue.specs.declared.process.Process.{Process}
use Rattle.muck_queue.specs.Queues.{Queue, process, on_process, without_process, is_background, resting, sleeping, process_in_mode, told_event, without_event, events_most}
use Rattle.spec_processes.specs.declared.place.Place.{Place}

-- What such a primitive does with the items that it takes. The stack that it leaves is given with it, the top first: at first
-- what it gives, and in the end what is below that too.
pub data Effect : Type 0 where
  -- it goes on, in this world with these processes
  gives : List Datum → Live → Queue → Effect
  -- it waits; when it goes on it has so many items more
  waits : ℕ → List Datum → Queue → Effect
  -- it has a child
  forks : List Datum → Effect
  -- the word of that name is entered, or the last one, of this program
  enters : List Datum → ℤ → Option (List ℕ) → Effect
  -- this program is started so many seconds later, with an argument
  starts : List Datum → ℤ → ℕ → List ℕ → Effect
  refuses : MufFault → Effect

-- behind a test
abbrev pub effect_unless : Option MufFault → Effect → Effect
effect_unless None effect = effect
effect_unless (Some f) effect = refuses f

-- so many items more, upon the rest of the stack, where there is room
abbrev pub effect_fitting : ℕ → List Datum → Effect → Effect
effect_fitting n rest effect = if nat_lt stack_most (n + length rest) then refuses StackFull else effect

abbrev pub upon : List Datum → Effect → Effect
upon rest (gives items w q) = effect_fitting (length items) rest (gives (items ++ rest) w q)
upon rest (waits n items q) = effect_fitting n rest (waits n (items ++ rest) q)
upon rest (forks items) = effect_fitting 1 rest (forks (items ++ rest))
upon rest (enters items d name) = enters (items ++ rest) d name
upon rest (starts items d seconds argument) = starts (items ++ rest) d seconds argument
upon rest (refuses f) = refuses f

-- What each does: where it is used and by whom, in which process, with which items, in which world with which processes.
abbrev pub ProcessDoing : Type 0
ProcessDoing = Place → Actor → Process → List Datum → Live → Queue → Effect

-- one that gives an item and changes nothing
abbrev pub gives_item : (Place → Process → Datum) → ProcessDoing
gives_item f x a p items w q = gives (f x p ∷ []) w q

-- What is asked.

-- MODE: 0 in preempt, 1 in the foreground, 2 in the background
abbrev pub mode_number : Mode → ℤ
mode_number Preempt = pos 0
mode_number Foreground = pos 1
mode_number Background = pos 2

abbrev pub mode_numbered : ℤ → Option Mode
mode_numbered n =
    if int_eq n (pos 0) then Some Preempt
    else (if int_eq n (pos 1) then Some Foreground
    else (if int_eq n (pos 2) then Some Background else None))

-- ISPID?
abbrev pub is_pid : ProcessDoing
is_pid x a p (int i ∷ []) w q = gives (truth_item (is_some (process i q)) ∷ []) w q
is_pid x a p items w q = refuses BadType

-- the second, as far as integers go
abbrev pub second_item : ℕ → Datum
second_item moment = int (pos (min moment 2147483647))

-- RANDOM: the next random word without its last bit
abbrev pub random : ProcessDoing
random x a p items w q = gives (int (pos (random_word w / 2)) ∷ []) (draw w) q

-- CALLER: the program that called this one, or what started the process
abbrev pub caller_of : Place → Process → Dbref
caller_of x p = option_map_or (λ d. d) x.caller p.trigger

-- How the process goes on.

-- in another mode; one without a connection is never in the foreground
abbrev pub mode_set : Option Mode → Place → Process → Live → Queue → Effect
mode_set None x p w q = refuses BadArgument
mode_set (Some Foreground) x p w q = if is_none p.descr then refuses BadArgument else gives [] w (on_process x.pid (process_in_mode Foreground) q)
mode_set (Some mode) x p w q = gives [] w (on_process x.pid (process_in_mode mode) q)

abbrev pub set_mode : ProcessDoing
set_mode x a p (int n ∷ []) w q = mode_set (mode_numbered n) x p w q
set_mode x a p items w q = refuses BadType

abbrev pub mode_is : Mode → ProcessDoing
mode_is mode x a p items w q = mode_set (Some mode) x p w q

-- so many seconds later, as far as seconds go
abbrev pub seconds_later : ℕ → ℕ → ℕ
seconds_later moment seconds = min (moment + seconds) 18446744073709551615

abbrev pub sleep : ProcessDoing
sleep x a p (int (pos n) ∷ []) w q = waits 0 [] (on_process x.pid (sleeping (seconds_later x.moment n)) q)
sleep x a p (int (negsuc n) ∷ []) w q = refuses BadSleep
sleep x a p items w q = refuses BadType

abbrev pub line_read : ProcessDoing
line_read x a p items w q = if is_background p.mode || is_none p.descr then refuses CannotRead else waits 1 [] (on_process x.pid (resting ForLine) q)

abbrev pub fork : ProcessDoing
fork x a p items w q = forks []

-- Other processes.

-- KILL: 1 where it was there
abbrev pub kill_done : Actor → Option Process → ℤ → Live → Queue → Effect
kill_done a None i w q = gives (int (pos 0) ∷ []) w q
kill_done a (Some other) i w q =
    effect_unless (fault_of_denial (verdict w.objects a (EndProcess other.player other.program))) (gives (int (pos 1) ∷ []) w (without_process i q))

abbrev pub kill : ProcessDoing
kill x a p (int i ∷ []) w q = kill_done a (process i q) i w q
kill x a p items w q = refuses BadType

-- Events.

abbrev pub event_name : List ℕ → List ℕ
event_name s = codes "USER." ++ s

abbrev pub entry_named : List ℕ → Datum → MapKey × Datum
entry_named key x = (Name key, x)

-- what comes with an event: what was sent, and by whom
abbrev pub event_data : Place → Actor → Process → Datum → Datum
event_data x a p value = dict (pairs_of (
    entry_named (codes "caller_pid") (int x.pid)
    ∷ entry_named (codes "caller_prog") (object x.program.0)
    ∷ entry_named (codes "data") value
    ∷ entry_named (codes "descr") (int (option_map_or (cast_signed w32) p.descr (negsuc 0)))
    ∷ entry_named (codes "player") (object a.player.0)
    ∷ entry_named (codes "prog_uid") (object a.user.0)
    ∷ entry_named (codes "trigger") (object p.trigger.0)
    ∷ []))

abbrev pub event_sent : Place → Option Process → ℤ → List ℕ → Datum → Live → Queue → Effect
event_sent x None i name value w q = gives [] w q
event_sent x (Some other) i name value w q =
    if nat_le events_most (length other.events) then refuses TooHeavy
    else (if nat_lt text_most (length name) then refuses TextTooLong
    else (if value_fits value then gives [] w (on_process i (told_event x.moment (name, value)) q) else refuses TooHeavy))

abbrev pub event_send : ProcessDoing
event_send x a p (value ∷ text s ∷ int i ∷ []) w q = event_sent x (process i q) i (event_name s) (event_data x a p value) w q
event_send x a p items w q = refuses BadType

-- the oldest one, or it waits for one
abbrev pub oldest : List (List ℕ × Datum) → Place → Live → Queue → Effect
oldest [] x w q = waits 2 [] (on_process x.pid (resting ForEvent) q)
oldest (e ∷ events) x w q = gives (text e.0 ∷ e.1 ∷ []) w (on_process x.pid without_event q)

abbrev pub event_wait : ProcessDoing
event_wait x a p items w q = oldest p.events x w q

-- Programs.

abbrev pub program_fault : List Entry → ℤ → Option MufFault
program_fault es d = if option_map_or (λ o. is_program o.kind) (object_at (object_numbered d) es) false then None else Some BadType

abbrev pub call_fault : List Entry → Actor → ℤ → Option MufFault
call_fault es a d = fault_of_denial (verdict es a (CallAct (object_numbered d)))

abbrev pub program_entering : Live → Actor → ℤ → Option (List ℕ) → Effect
program_entering w a d name = effect_unless (program_fault w.objects d) (effect_unless (call_fault w.objects a d) (enters [] d name))

abbrev pub program_call : ProcessDoing
program_call x a p (text name ∷ object d ∷ []) w q = program_entering w a d (Some name)
program_call x a p (object d ∷ []) w q = program_entering w a d None
program_call x a p items w q = refuses BadType

abbrev pub program_starting : Live → Actor → ℤ → ℤ → List ℕ → Effect
program_starting w a d (pos n) argument = effect_unless (program_fault w.objects d) (effect_unless (call_fault w.objects a d) (starts [] d n argument))
program_starting w a d (negsuc n) argument = effect_unless (program_fault w.objects d) (refuses BadSleep)

abbrev pub queue : ProcessDoing
queue x a p (text s ∷ object d ∷ int i ∷ []) w q = program_starting w a d i s
queue x a p items w q = refuses BadType

-- the row of a primitive, where there is one
abbrev pub process_row : Primitive → Option ProcessDoing
process_row Call = Some program_call
process_row Fork = Some fork
process_row Sleep = Some sleep
process_row Read = Some line_read
process_row Kill = Some kill
process_row Pid = Some (gives_item (λ x p. int x.pid))
process_row IsPid = Some is_pid
process_row QueuePrim = Some queue
process_row ModePrim = Some (gives_item (λ x p. int (mode_number p.mode)))
process_row SetMode = Some set_mode
process_row PreemptPrim = Some (mode_is Preempt)
process_row ForegroundPrim = Some (mode_is Foreground)
process_row BackgroundPrim = Some (mode_is Background)
process_row SysTime = Some (gives_item (λ x p. second_item x.moment))
process_row Random = Some random
process_row EventSend = Some event_send
process_row EventWait = Some event_wait
process_row EventCount = Some (gives_item (λ x p. count_item (length p.events)))
process_row Prog = Some (gives_item (λ x p. object x.program.0))
process_row Trig = Some (gives_item (λ x p. object p.trigger.0))
process_row Caller = Some (gives_item (λ x p. object (caller_of x p).0))
process_row Cmd = Some (gives_item (λ x p. text p.command))
process_row p = None

-- What they need.

-- CALL takes two items where a text is on the top
abbrev pub needs_at : Primitive → List Datum → Option Needs
needs_at Call (text t ∷ rest) = takes_items (a_text ∷ one_there ∷ [])
needs_at p stack = needs_of p

abbrev pub taken_at : Primitive → List Datum → ℕ
taken_at p stack = option_map_or (λ needs. length (wanted needs stack)) (needs_at p stack) 0

abbrev pub is_process_family : Family → Bool
is_process_family kind.Process = true
is_process_family family = false

abbrev pub is_process : Primitive → Bool
is_process p = is_process_family (family_of p)

abbrev pub done_in : Option Process → Option ProcessDoing → Primitive → Place → Actor → ℕ → List Datum → Live → Queue → Effect
done_in (Some own) (Some doing) p x a locked stack w q =
    effect_unless (fault_by (needs_at p stack) (primitive_level p) None a locked stack w)
    (upon (drop (taken_at p stack) stack) (doing x a own (take (taken_at p stack) stack) w q))
done_in own doing p x a locked stack w q = refuses NotCompiled

-- What a primitive of processes makes of a stack of which so many items are locked, of the world and of its processes. The state
-- of its own process is out of that.
unfoldable pub processed : Primitive → Place → Actor → ℕ → List Datum → Live → Queue → Effect
processed p x a locked stack w q = done_in (process x.pid q) (process_row p) p x a locked stack w q
