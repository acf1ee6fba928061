-- A slice: the units of a process, one behind the other.
use Rattle.std.specs.Prelude.{ℕ, zero, suc, ◌+◌, ℤ, pos, negsuc, Bool, true, false, not, ◌&&◌, nat_lt, nat_le, if◌then◌else◌, List, [], ◌∷◌, ◌++◌, map, find, codes, Option, Some, None, Result, Ok, Err}
use Rattle.std.specs.Option.{option_map, option_map_or, option_and_then}
use Rattle.std.specs.Str.{bytes_eq}
use Rattle.std.specs.Char.{to_ascii_lowercase}
use Rattle.muck_model.specs.declared.dbref.Dbref.{Dbref}
use Rattle.muck_model.specs.declared.tune.Tune.{Tune}
use Rattle.spec_live.specs.Objects.{Entry, nothing}
use Rattle.std.specs.Fmt.{signed_decimal as signed_text}
use Rattle.spec_live.specs.Lives.{tell_player}
use Rattle.spec_rights.specs.declared.act.Actor.{Actor}
use Rattle.spec_rights.specs.Levels.{level, user}
use Rattle.muf_model.specs.declared.code.Offer.{Offer}
use Rattle.muf_model.specs.declared.code.Offer.TheVariants.{Nobody, Wizards, All}
use Rattle.muf_model.specs.declared.fault.MufFault.{MufFault}
use Rattle.muf_model.specs.declared.fault.MufFault.TheVariants.{CallsFull, NotCompiled, NotPublic, TooManyUnits, PreemptTooLong}
use Rattle.muf_model.specs.declared.prims.Primitive.{Primitive as Name}
use Rattle.muf_model.specs.Faults.{fault_text}
use Rattle.muf_model.specs.Datum.{Datum, int}
use Rattle.muf_model.specs.Tree.{Definition, Tree}
use Rattle.muf_model.specs.Source.{Program, Source, locked_of, calls_running, handed, item_passed, last_word, program_entered}
use Rattle.muf_model.specs.Unit.{calls_most, Outcome, goes, faulted, asks, unit, fault_met}
use Rattle.muf_model.specs.Chains.{callers_of}
use Rattle.spec_prims.specs.Asking.{object_numbered}
use Rattle.spec_prims.specs.Row.{WorldAnswer, gives, refuses, breaks}
use Rattle.spec_prims.specs.Shared.{shared}
use Rattle.muck_library.specs.Library.{Library, formed}
use Rattle.muck_queue.specs.declared.mode.Mode.TheVariants.{Background}
use Rattle.muck_queue.specs.declared.mode.Wait.TheVariants.{Nothing}
use Rattle.muck_queue.specs.declared.process.Process.{Process}
use Rattle.muck_queue.specs.Queues.{process, on_process, standing, without_process, units_counted, woken, more, is_preempt}
use Rattle.spec_processes.specs.declared.place.Place.{Place}
use Rattle.spec_processes.specs.ProcessRows.{Effect, gives as effect_gives, waits, forks, enters, starts, refuses as effect_refuses, processed, is_process, seconds_later}
use Rattle.spec_events.specs.declared.starting.Agent.{Agent}
use Rattle.spec_events.specs.World.{World, on_live, on_queue, with_library}
use Rattle.spec_events.specs.Following.{settled}
use Rattle.spec_events.specs.Starting.{process_joined, program_begun}

-- Who acts.

abbrev pub callers : Source → List Dbref
callers s = map (λ p. object_numbered p.number) (callers_of s.marks)

-- the running program acts by its level and its user, for the player of the process
unfoldable pub acting : Agent → Source → List Entry → Actor
acting x s es = record {
  level = level es (object_numbered s.program.number) (callers s);
  user = user es x.player x.trigger (object_numbered s.program.number) (callers s);
  player = x.player;
}

-- A shared primitive, in the state at it.

-- What it did: it was done, and the process goes on behind it, or waits there; or it was refused. The world may have changed
-- either way.
pub data SharedEffect (W : Type 0) : Type 0 where
  does : Source → W → SharedEffect W
  rests : Source → W → SharedEffect W
  fails : MufFault → W → SharedEffect W

-- the state behind it, with this stack
abbrev pub state_behind : List Datum → Source → Source
state_behind stack s = item_passed (record s { stack = stack })

-- what its row makes of the process and of the world
abbrev pub lifted : Source → World → WorldAnswer → SharedEffect World
lifted s w (gives stack live) = does (state_behind stack s) (record w { live = live })
lifted s w (refuses f) = fails f w
lifted s w (breaks f live) = fails f (record w { live = live })

-- it is done as its row says, by the running program
unfoldable pub row_done : Agent → Name → Source → World → SharedEffect World
row_done x p s w = lifted s w (shared p (acting x s w.live.objects) x.descr (locked_of s.marks) s.stack w.live)

-- CALL: the last word of a program, or a word of it that is offered. It changes nothing but the built forms.

-- a word is offered to all, to programs at the highest level, or to nobody
abbrev pub is_offered : Actor → Offer → Bool
is_offered a Nobody = false
is_offered a Wizards = nat_le 4 a.level
is_offered a All = true

-- the word of that name, in any case of letters, where it is offered; without a name the last word
abbrev pub called_word : Actor → Option (List ℕ) → Tree → Option Definition
called_word a None tree = last_word tree.words
called_word a (Some name) tree = find (λ d. bytes_eq d.name (map to_ascii_lowercase name) && is_offered a d.offer) tree.words

-- the word is entered from the state behind CALL, where there is room for a call
abbrev pub word_entered : Source → Program → Option Definition → World → SharedEffect World
word_entered s program None w = fails NotPublic w
word_entered s program (Some d) w = if nat_lt (calls_running s.marks) calls_most then does (program_entered program d s) w else fails CallsFull w

-- a word of the built form
abbrev pub form_entered : Actor → Source → ℤ → Option (List ℕ) → Option Tree → World → SharedEffect World
form_entered a after d name None w = fails NotCompiled w
form_entered a after d name (Some tree) w = word_entered after (record { number = d; tree = tree }) (called_word a name tree) w

-- the program is built where it isn't yet
abbrev pub form_called : Actor → Source → ℤ → Option (List ℕ) → Option Tree × Library → World → SharedEffect World
form_called a after d name (form, library) w = form_entered a after d name form (with_library library w)

unfoldable pub program_called : Actor → Source → ℤ → Option (List ℕ) → World → SharedEffect World
program_called a after d name w = form_called a after d name (formed w.live.objects (object_numbered d) w.library) w

-- FORK: a child that stands behind it with a 0, in the background, at once; the parent gets its number, or -1 where there is no
-- room for it.

abbrev pub child_of : ℕ → Source → Process → Process
child_of moment running p = record p {
  number = pos 0;
  due = moment;
  descr = None;
  mode = Background;
  wait = Nothing;
  units = 0;
  section = 0;
  events = [];
  running = Some running;
}

abbrev pub with_number : List Datum → Source → World × Result ℤ MufFault → SharedEffect World
with_number stack s (w, Ok n) = does (state_behind (int n ∷ stack) s) w
with_number stack s (w, Err f) = does (state_behind (int (negsuc 0) ∷ stack) s) w

abbrev pub child_joined : Option Process → List Datum → Source → World → SharedEffect World
child_joined None stack s w = fails NotCompiled w
child_joined (Some p) stack s w = with_number stack s (process_joined (child_of w.moment (handed (int (pos 0)) (state_behind stack s)) p) w)

unfoldable pub forked : ℤ → List Datum → Source → World → SharedEffect World
forked pid stack s w = child_joined (process pid w.queue) stack s w

-- QUEUE: a program is started in the background, so many seconds later, by nothing.

unfoldable pub queued_command : List ℕ
queued_command = codes "Queued Event."

abbrev pub with_process : List Datum → Source → World × Result ℤ MufFault → SharedEffect World
with_process stack s (w, Ok n) = does (state_behind (int n ∷ stack) s) w
with_process stack s (w, Err f) = fails f w

unfoldable pub queued : Agent → List Datum → ℤ → ℕ → List ℕ → Source → World → SharedEffect World
queued x stack d seconds argument s w =
    with_process stack s (program_begun
    (record { descr = None; mode = Background; due = seconds_later w.moment seconds })
    (record { player = x.player; program = object_numbered d; trigger = nothing; command = queued_command; argument = argument }) w)

-- What a primitive of processes does with the processes and their world.

-- the program that called the running one
abbrev pub nearest : List Dbref → Option Dbref
nearest [] = None
nearest (d ∷ ds) = Some d

-- where it is used
abbrev pub place_of_use : ℤ → Source → World → Place
place_of_use pid s w = record { pid = pid; program = object_numbered s.program.number; caller = nearest (callers s); moment = w.moment }

abbrev pub effected : ℤ → Agent → Source → World → Effect → SharedEffect World
effected pid x s w (effect_gives stack live queue) = does (state_behind stack s) (record w { live = live; queue = queue })
effected pid x s w (waits n stack queue) = rests (state_behind stack s) (record w { queue = queue })
effected pid x s w (forks stack) = forked pid stack s w
effected pid x s w (enters stack d name) = program_called (acting x s w.live.objects) (state_behind stack s) d name w
effected pid x s w (starts stack d seconds argument) = queued x stack d seconds argument s w
effected pid x s w (effect_refuses f) = fails f w

unfoldable pub process_done : ℤ → Agent → Name → Source → World → SharedEffect World
process_done pid x p s w = effected pid x s w (processed p (place_of_use pid s w) (acting x s w.live.objects) (locked_of s.marks) s.stack w.live w.queue)

-- What a shared primitive does, in a world that the state of its process is out of.
unfoldable pub deed : ℤ → Agent → Name → Source → World → SharedEffect World
deed pid x p s w = if is_process p then process_done pid x p s w else row_done x p s w

-- A unit.

unfoldable pub program_error : ℤ → MufFault → List ℕ
program_error n f = codes "Program error in #" ++ (signed_text n ++ (codes ": " ++ fault_text f))

-- the process of this number stands at this state
abbrev pub process_stands_at : ℤ → Source → World → World
process_stands_at pid s w = on_queue (standing pid (Some s)) w

-- it isn't there any more
abbrev pub ended_one : ℤ → World → World
ended_one pid w = on_queue (without_process pid) w

-- a fault ended it: its player is told of it, and of the program that ran
abbrev pub broken : ℤ → Dbref → ℤ → MufFault → World → World
broken pid player program f w = on_live (tell_player player (program_error program f)) (ended_one pid w)

-- its state is out of the world
abbrev pub out : ℤ → World → World
out pid w = on_queue (standing pid None) w

-- it took a unit more
abbrev pub one_counted : ℤ → World → World
one_counted pid w = on_queue (on_process pid (units_counted 1)) w

-- The world after a unit of a process, which goes on, or waits, or has ended.
pub data Went : Type 0 where
  on : World → Went
  rest : World → Went
  over : World → Went

-- where a unit went, or a fault of a shared primitive, in the program of this number
abbrev pub unit_went : ℤ → Dbref → ℤ → Outcome → World → Went
unit_went pid player program (goes k t) w = on (process_stands_at pid t w)
unit_went pid player program (faulted f) w = over (broken pid player program f w)
unit_went pid player program o w = over (ended_one pid w)

-- A shared primitive was done, and what follows from it: a program that changed ends each process that is in it, this one
-- too. Or it was refused, and the process goes on at the nearest TRY.
abbrev pub after_deed : ℤ → Dbref → Source → SharedEffect World → Went
after_deed pid player s (does t w) = on (settled (process_stands_at pid t w))
after_deed pid player s (rests t w) = rest (settled (process_stands_at pid t w))
after_deed pid player s (fails f w) = unit_went pid player s.program.number (fault_met f s) w

abbrev pub unit_done : ℤ → Agent → ℤ → Outcome → World → Went
unit_done pid x program (asks p s) w = after_deed pid x.player s (deed pid x p s (out pid w))
unit_done pid x program o w = unit_went pid x.player program o w

-- Limits.

-- the most units that a process takes at this level until it waits, where there is a limit
abbrev pub units_most_at : Tune → ℕ → Option ℕ
units_most_at tune level = if nat_lt level 2 then Some tune.m1_units else (if nat_lt level 3 then Some tune.m2_units else None)

abbrev pub are_spent : Option ℕ → ℕ → Bool
are_spent most units = option_map_or (λ n. nat_le n units) most false

-- the most units of a section, as far as such counts go
abbrev pub section_most : Tune → ℕ
section_most tune = more 0 tune.preempt_units

-- the fault of a unit that would be one too many, for its section or else for its level
abbrev pub limit_fault : Tune → ℕ → Agent → Option MufFault
limit_fault tune level x =
    if is_preempt x.mode && nat_le (section_most tune) x.section then Some PreemptTooLong
    else (if are_spent (units_most_at tune level) x.units then Some TooManyUnits else None)

abbrev pub within_limit : Option MufFault → ℤ → Agent → Source → World → Went
within_limit (Some f) pid x s w = over (broken pid x.player s.program.number f w)
within_limit None pid x s w = unit_done pid x s.program.number (unit s) (one_counted pid w)

-- the next unit of a process that stands at s
unfoldable pub unit_taken : Tune → ℤ → Agent → Source → World → Went
unit_taken tune pid x s w = within_limit (limit_fault tune (acting x s w.live.objects).level x) pid x s w

-- A slice.

-- a unit that was taken: the world before it, where the process stood, who acted, and how it went
pub record Taken : Type 0 where
  pub before : World
  pub state : Source
  pub actor : Actor
  pub turn : Went

abbrev pub world_of : Went → World
world_of (on w) = w
world_of (rest w) = w
world_of (over w) = w

-- the world after it
abbrev pub after_unit : Taken → World
after_unit t = world_of t.turn

abbrev pub unit_of : Agent → Source → World → Went → Taken
unit_of x s w t = record { before = w; state = s; actor = acting x s w.live.objects; turn = t }

abbrev pub agent_of : Process → Agent
agent_of p = record { player = p.player; trigger = p.trigger; descr = p.descr; mode = p.mode; units = p.units; section = p.section }

-- for whom a process acts as the world is, and where it stands
abbrev pub seat_of : Process → Option (Agent × Source)
seat_of p = option_map (λ s. (agent_of p, s)) p.running

abbrev pub seat : ℤ → World → Option (Agent × Source)
seat pid w = option_and_then seat_of (process pid w.queue)

abbrev pub then_more : (World → List Taken) → Went → List Taken
then_more more (on w) = more w
then_more more (rest w) = []
then_more more (over w) = []

-- the most units of a slice: those of a slice outside preempt, those of a section that begins in the last of them, and the one
-- that is too many
abbrev pub slice_most : Tune → ℕ
slice_most tune = tune.instr_slice + suc tune.preempt_units

-- of so many units that are left, no more are for a process outside preempt
abbrev pub is_through : Tune → ℕ → Agent → Bool
is_through tune left x = not (is_preempt x.mode) && nat_le left (suc tune.preempt_units)

-- the unit that a process takes, and what `more` says follows it
abbrev pub unit_then : Tune → ℤ → World → (World → List Taken) → Agent × Source → List Taken
unit_then tune pid w more (x, s) = unit_of x s w (unit_taken tune pid x s w) ∷ then_more more (unit_taken tune pid x s w)

abbrev pub next_unit : Tune → ℕ → ℤ → World → (World → List Taken) → Agent × Source → List Taken
next_unit tune left pid w more (x, s) = if is_through tune left x then [] else unit_then tune pid w more (x, s)

-- the units of a process, while it is there and goes on, and so many are left
unfoldable pub units_run : Tune → ℕ → ℤ → World → List Taken
units_run tune zero pid w = []
units_run tune (suc n) pid w = option_map_or (next_unit tune (suc n) pid w (units_run tune n pid)) (seat pid w) []

-- the world after them
abbrev pub last_world : World → List Taken → World
last_world w [] = w
last_world w (t ∷ ts) = last_world (after_unit t) ts

-- a slice of the process begins
abbrev pub process_awake : ℤ → World → World
process_awake pid w = on_queue (on_process pid (woken w.moment)) w

-- the units of a slice, by what is tuned as it begins
abbrev pub units_of : ℤ → World → List Taken
units_of pid w = units_run w.live.board.tune (slice_most w.live.board.tune) pid (process_awake pid w)

-- what the slice of a process makes of the world
unfoldable pub sliced : ℤ → World → World
sliced pid w = last_world (process_awake pid w) (units_of pid w)
