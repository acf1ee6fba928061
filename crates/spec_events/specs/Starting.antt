-- A program is started.
use Rattle.std.specs.Prelude.{ℕ, ℤ, pos, ◌+ℤ◌, if◌then◌else◌, [], Option, Some, None, Result, Ok, Err}
use Rattle.muck_model.specs.declared.dbref.Denial.{Denial}
use Rattle.spec_live.specs.Lives.{tell, place_at}
use Rattle.spec_rights.specs.declared.act.Actor.{Actor}
use Rattle.spec_rights.specs.declared.act.Act.TheVariants.{Start}
use Rattle.muck_model.specs.declared.dbref.Dbref.{Dbref}
use Rattle.spec_live.specs.Flags.{builder}
use Rattle.spec_rights.specs.Levels.{flag_at}
use Rattle.spec_rights.specs.Verdict.{verdict}
use Rattle.spec_rights.specs.Asking.{refused}
use Rattle.muf_model.specs.declared.fault.MufFault.{MufFault}
use Rattle.muf_model.specs.declared.fault.MufFault.TheVariants.{NotCompiled, ProcessLimit}
use Rattle.muf_model.specs.Faults.{fault_text}
use Rattle.muf_model.specs.Tree.{Definition, Tree}
use Rattle.muf_model.specs.Source.{Source, last_word, started}
use Rattle.muf_running.specs.declared.begin.Occasion.{Occasion}
use Rattle.muf_running.specs.Begins.{common_of}
use Rattle.muck_library.specs.Library.{Library, formed}
use Rattle.muck_queue.specs.declared.process.Process.{Process}
use Rattle.muck_queue.specs.declared.mode.Mode.{Mode}
use Rattle.muck_queue.specs.declared.mode.Mode.TheVariants.{Preempt, Foreground, Background}
use Rattle.muck_queue.specs.declared.mode.Wait.TheVariants.{Nothing}
use Rattle.muck_queue.specs.Queues.{is_queue_full, process_added}
use Rattle.spec_events.specs.declared.starting.Call.{Call}
use Rattle.spec_events.specs.declared.starting.Manner.{Manner}
use Rattle.spec_events.specs.World.{World, on_live, on_queue, with_library}

-- what ME, LOC, TRIGGER and COMMAND are at first
abbrev pub occasion : Call → World → Occasion
occasion c w = record { player = c.player; place = place_at c.player w.live; trigger = c.trigger; command = c.command }

-- the state in which the program begins
abbrev pub program_beginning : Call → Tree → Definition → World → Source
program_beginning c tree word w = started (record { number = c.program.0; tree = tree }) word (common_of (occasion c w)) c.argument

-- a command starts a program with flag B in preempt
abbrev pub first_mode : Dbref → World → Mode
first_mode program w = if flag_at builder w.live.objects program then Preempt else Foreground

-- as a command starts it: tied to the connection d, and at once
abbrev pub by_command : ℕ → Dbref → World → Manner
by_command d program w = record { descr = Some d; mode = first_mode program w; due = w.moment }

-- as a hook starts it: in the background, tied to nothing, and at once
abbrev pub by_hook : World → Manner
by_hook w = record { descr = None; mode = Background; due = w.moment }

unfoldable pub new_process : Manner → Call → Source → Process
new_process m c running = record {
  number = pos 0;
  due = m.due;
  player = c.player;
  trigger = c.trigger;
  command = c.command;
  program = c.program;
  descr = m.descr;
  mode = m.mode;
  wait = Nothing;
  units = 0;
  section = 0;
  events = [];
  running = Some running;
}

-- it joins the others, where there is room for it; what is answered is its number
abbrev pub process_joined : Process → World → World × Result ℤ MufFault
process_joined p w = if is_queue_full p.player w.live.board.tune w.queue then (w, Err ProcessLimit) else (on_queue (process_added p) w, Ok (w.queue.last +ℤ pos 1))

abbrev pub word_started : Manner → Call → Tree → Option Definition → World → World × Result ℤ MufFault
word_started m c tree None w = (w, Err NotCompiled)
word_started m c tree (Some word) w = process_joined (new_process m c (program_beginning c tree word w)) w

-- the last word of the built form is begun
abbrev pub form_started : Manner → Call → Option Tree → World → World × Result ℤ MufFault
form_started m c None w = (w, Err NotCompiled)
form_started m c (Some tree) w = word_started m c tree (last_word tree.words) w

abbrev pub built_started : Manner → Call → Option Tree × Library → World → World × Result ℤ MufFault
built_started m c (form, library) w = form_started m c form (with_library library w)

-- A program is started, built where it isn't yet: the number of its process, or why there is none.
unfoldable pub program_begun : Manner → Call → World → World × Result ℤ MufFault
program_begun m c w = built_started m c (formed w.live.objects c.program w.library) w

-- the connection d is told why not
abbrev pub start_told : ℕ → World × Result ℤ MufFault → World
start_told d (w, Ok pid) = w
start_told d (w, Err fault) = on_live (tell d (fault_text fault)) w

abbrev pub start_judged : ℕ → Call → Option Denial → World → World
start_judged d c (Some denial) w = on_live (refused d denial) w
start_judged d c None w = start_told d (program_begun (by_command d c.program w) c w)

-- An actor starts a program from the connection d, by leave.
unfoldable pub launched : ℕ → Actor → Call → World → World
launched d a c w = start_judged d c (verdict w.live.objects a (Start c.program)) w
