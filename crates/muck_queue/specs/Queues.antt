-- The processes of a world, by rising number.
use Rattle.std.specs.Prelude.{ℕ, ◌+◌, min, ℤ, pos, ◌+ℤ◌, Bool, true, false, not, ◌&&◌, ◌||◌, ◌==◌, nat_lt, nat_le, int_lt, if◌then◌else◌, List, [], ◌∷◌, ◌++◌, length, map, find, drop, slice_get, Option, None}
use Rattle.std.specs.List.{filter, reduce, count_by, list_any}
use Rattle.std.specs.Option.{option_map, option_map_or, option_and_then}
use Rattle.std.specs.Ordering.{int_eq}
use Rattle.muck_model.specs.declared.dbref.Dbref.{Dbref}
use Rattle.muck_model.specs.declared.tune.Tune.{Tune}
use Rattle.spec_live.specs.Objects.{same, nothing}
use Rattle.muf_model.specs.Datum.{Datum, text}
use Rattle.muf_model.specs.Source.{Source, handed}
use Rattle.muf_model.specs.Chains.{programs_of}
use Rattle.muck_queue.specs.declared.mode.Mode.{Mode}
use Rattle.muck_queue.specs.declared.mode.Mode.TheVariants.{Preempt, Background}
use Rattle.muck_queue.specs.declared.mode.Wait.{Wait}
use Rattle.muck_queue.specs.declared.mode.Wait.TheVariants.{Nothing, ForLine, ForEvent}
use Rattle.muck_queue.specs.declared.process.Process.{Process}
use Rattle.muck_queue.specs.declared.claim.Claim.{Claim}

-- The processes, the last number that was given, and the claims: which party has which process, also once that has ended.
pub record Queue : Type 0 where
  pub processes : List Process
  pub last : ℤ
  pub claims : List Claim

unfoldable pub empty_queue : Queue
empty_queue = record { processes = []; last = pos 0; claims = [] }

-- the last number that can be given
unfoldable pub number_most : ℤ
number_most = pos 2147483647

-- A process.

abbrev pub has_pid : ℤ → Process → Bool
has_pid pid p = int_eq p.number pid

abbrev pub is_process_of : Dbref → Process → Bool
is_process_of player p = same p.player player

-- a claim is on the process of this number
abbrev pub is_on : ℤ → Claim → Bool
is_on pid c = int_eq c.number pid

-- in preempt nothing else happens until it waits or ends
abbrev pub is_preempt : Mode → Bool
is_preempt Preempt = true
is_preempt mode = false

-- a background process has no connection
abbrev pub is_background : Mode → Bool
is_background Background = true
is_background mode = false

-- it waits for a line of its connection
abbrev pub is_for_line : Wait → Bool
is_for_line ForLine = true
is_for_line wait = false

-- it waits for an event, and none has come
abbrev pub is_for_event : Wait → List (List ℕ × Datum) → Bool
is_for_event ForEvent [] = true
is_for_event wait events = false

abbrev pub is_reading : Process → Bool
is_reading p = is_for_line p.wait

abbrev pub is_awaiting : Process → Bool
is_awaiting p = is_for_event p.wait p.events

-- some party has claimed it
abbrev pub is_claimed : ℤ → List Claim → Bool
is_claimed pid cs = list_any (is_on pid) cs

-- its second has come, it waits for nothing, and nobody has claimed it
abbrev pub is_process_due : ℕ → List Claim → Process → Bool
is_process_due moment cs p = nat_le p.due moment && (not (is_reading p) && (not (is_awaiting p) && not (is_claimed p.number cs)))

-- p is due before q, or they are due in the same second and p has the lower number
abbrev pub is_before : Process → Process → Bool
is_before p q = nat_lt p.due q.due || (p.due == q.due && int_lt p.number q.number)

abbrev pub is_tied_to : ℕ → Process → Bool
is_tied_to d p = option_map_or (λ c. c == d) p.descr false

-- it takes the next line of that connection
abbrev pub reads_from : ℕ → Process → Bool
reads_from d p = is_tied_to d p && is_reading p

-- it keeps that connection from anything else
abbrev pub keeps_busy : ℕ → Process → Bool
keeps_busy d p = is_tied_to d p && not (is_reading p)

-- the program stands on the call stack: it runs, or is a caller of what runs
abbrev pub is_in : Dbref → Source → Bool
is_in program s = list_any (λ n. int_eq n program.0) (map (λ q. q.number) (programs_of s))

-- a process whose state is out is in no program
abbrev pub runs_in : Dbref → Process → Bool
runs_in program p = option_map_or (is_in program) p.running false

abbrev pub has_trigger : Dbref → Process → Bool
has_trigger trigger p = same p.trigger trigger

abbrev pub process_numbered : ℤ → Process → Process
process_numbered pid p = record p { number = pid }

abbrev pub without_trigger : Process → Process
without_trigger p = record p { trigger = nothing }

-- at this state, or without one
abbrev pub at_state : Option Source → Process → Process
at_state running p = record p { running = running }

-- so many more, as far as such counts go
abbrev pub more : ℕ → ℕ → ℕ
more n count = min (n + count) 18446744073709551615

-- with so many units more, which in preempt are units of its section too
abbrev pub units_counted : ℕ → Process → Process
units_counted n p = record p { units = more n p.units; section = if is_preempt p.mode then more n p.section else p.section }

-- it waits so, and counts its units anew when it goes on
abbrev pub resting : Wait → Process → Process
resting wait p = record p { wait = wait; units = 0; section = 0 }

-- it sleeps until this second
abbrev pub sleeping : ℕ → Process → Process
sleeping due p = record (resting Nothing p) { due = due }

-- In another mode. A section that begins has no units yet; in the background a process has no connection, for good.
abbrev pub process_in_mode : Mode → Process → Process
process_in_mode mode p = record p {
  mode = mode;
  descr = if is_background mode then None else p.descr;
  section = if is_preempt p.mode then p.section else 0;
}

-- it goes on from this second, with an item more
abbrev pub process_with_item : Datum → Process → Process
process_with_item x p = record p { running = option_map (handed x) p.running }

abbrev pub going_on : ℕ → Process → Process
going_on moment p = record p { wait = Nothing; due = moment }

-- the line for which it waited comes, and is an item for it
abbrev pub told_line : ℕ → List ℕ → Process → Process
told_line moment line p = process_with_item (text line) (going_on moment p)

-- the most events that a process has
abbrev pub events_most : ℕ
events_most = 64

-- an event comes, behind those that it has; where it waited for one it goes on from this second
abbrev pub told_event : ℕ → List ℕ × Datum → Process → Process
told_event moment event p = record p { events = p.events ++ event ∷ []; due = if is_awaiting p then moment else p.due }

-- without its oldest event
abbrev pub without_event : Process → Process
without_event p = record p { events = drop 1 p.events }

-- where it waited for an event, and one came, it has that: what came with it, and upon that the name
abbrev pub given_event : Wait → List (List ℕ × Datum) → Process → Process
given_event ForEvent (e ∷ events) p = process_with_item (text e.0) (process_with_item e.1 (record p { wait = Nothing; events = events }))
given_event wait events p = p

-- a slice of it begins at this second, and with it a section of its own
abbrev pub woken : ℕ → Process → Process
woken moment p = given_event p.wait p.events (record p { due = moment; section = 0 })

-- Lists of processes.

abbrev pub earlier : Process → Process → Process
earlier p q = if is_before q p then q else p

-- of the processes that pass the test, the one that is before all others
abbrev pub earliest : (Process → Bool) → List Process → Option Process
earliest test ps = reduce earlier (filter test ps)

-- with the first process that passes the test changed by f
abbrev pub changed_first : (Process → Bool) → (Process → Process) → List Process → List Process
changed_first test f [] = []
changed_first test f (p ∷ ps) = if test p then f p ∷ ps else p ∷ changed_first test f ps

-- without the first process that passes the test
abbrev pub without_first : (Process → Bool) → List Process → List Process
without_first test [] = []
without_first test (p ∷ ps) = if test p then ps else p ∷ without_first test ps

-- without each process that passes the test
abbrev pub without_all : (Process → Bool) → List Process → List Process
without_all test ps = filter (λ p. not (test p)) ps

abbrev pub with_processes : List Process → Queue → Queue
with_processes ps q = record q { processes = ps }

-- The queue.

-- the process of this number
abbrev pub process : ℤ → Queue → Option Process
process pid q = find (has_pid pid) q.processes

-- the number of the process that is to go on next
unfoldable pub next_due : ℕ → Queue → Option ℤ
next_due moment q = option_map (λ p. p.number) (earliest (is_process_due moment q.claims) q.processes)

-- a party claims the process of this number
unfoldable pub claimed : ℤ → ℕ → Queue → Queue
claimed pid party q = record q { claims = q.claims ++ record { number = pid; party = party } ∷ [] }

-- nobody claims it any more
unfoldable pub released : ℤ → Queue → Queue
released pid q = record q { claims = filter (λ c. not (is_on pid c)) q.claims }

-- with a change of the process of this number, where it is there
unfoldable pub on_process : ℤ → (Process → Process) → Queue → Queue
on_process pid f q = with_processes (changed_first (has_pid pid) f q.processes) q

-- the process of this number stands at this state, or its state is out
abbrev pub standing : ℤ → Option Source → Queue → Queue
standing pid running q = on_process pid (at_state running) q

-- the state of the process of this number, where it is there
abbrev pub state_of : ℤ → Queue → Option Source
state_of pid q = option_and_then (λ p. p.running) (process pid q)

-- without the process of this number
unfoldable pub without_process : ℤ → Queue → Queue
without_process pid q = with_processes (without_first (has_pid pid) q.processes) q

-- no process of this player can be added: there are as many as may be, or as many of this player, or no number is left
unfoldable pub is_queue_full : Dbref → Tune → Queue → Bool
is_queue_full player tune q =
    nat_le tune.process_limit (length q.processes)
    || nat_le tune.player_processes (count_by (is_process_of player) q.processes)
    || int_eq q.last number_most

-- with a process more, behind all others, with the number after the last one that was given
unfoldable pub process_added : Process → Queue → Queue
process_added p q = record q { processes = q.processes ++ process_numbered (q.last +ℤ pos 1) p ∷ []; last = q.last +ℤ pos 1 }

-- some process is tied to the connection d
unfoldable pub has_process_tied : ℕ → Queue → Bool
has_process_tied d q = list_any (is_tied_to d) q.processes

-- some process that is tied to the connection d doesn't wait for its line
unfoldable pub is_busy : ℕ → Queue → Bool
is_busy d q = list_any (keeps_busy d) q.processes

-- the number of the process that takes the next line of the connection d
unfoldable pub reader : ℕ → Queue → Option ℤ
reader d q = option_map (λ p. p.number) (find (reads_from d) q.processes)

-- the oldest event of the process of this number
unfoldable pub oldest_event : ℤ → Queue → Option (List ℕ × Datum)
oldest_event pid q = option_and_then (λ p. slice_get p.events 0) (process pid q)

-- how many events it has
abbrev pub events_of : ℤ → Queue → ℕ
events_of pid q = option_map_or (λ p. length p.events) (process pid q) 0

-- without the processes that are tied to the connection d
unfoldable pub ended_tied : ℕ → Queue → Queue
ended_tied d q = with_processes (without_all (is_tied_to d) q.processes) q

-- without the processes that run the program
unfoldable pub ended_running : Dbref → Queue → Queue
ended_running program q = with_processes (without_all (runs_in program) q.processes) q

-- no process was started by this trigger any more
unfoldable pub trigger_cleared : Dbref → Queue → Queue
trigger_cleared trigger q =
    with_processes (map (λ p. if has_trigger trigger p then without_trigger p else p) q.processes) q
