-- Worked examples, which the checker computes.
use Rattle.std.specs.Prelude.{◌≡◌, ℕ, ℤ, pos, true, false, List, [], ◌∷◌, map, refl, codes, Some, None}
use Rattle.std.specs.Option.{option_map_or}
use Rattle.muck_model.specs.declared.tune.Tune.{Tune}
use Rattle.muck_model.specs.Parameters.{first_tune}
use Rattle.spec_live.specs.Objects.{dbref_of, nothing}
use Rattle.muf_model.specs.declared.code.Closer.TheVariants.{Semicolon}
use Rattle.muf_model.specs.Datum.{Datum, int, text}
use Rattle.muf_model.specs.Tree.{stop, closes}
use Rattle.muf_model.specs.Source.{Program, Source, entering}
use Rattle.muck_queue.specs.declared.process.Process.{Process}
use Rattle.muck_queue.specs.declared.mode.Mode.{Mode}
use Rattle.muck_queue.specs.declared.mode.Mode.TheVariants.{Preempt, Foreground, Background}
use Rattle.muck_queue.specs.declared.mode.Wait.{Wait}
use Rattle.muck_queue.specs.declared.mode.Wait.TheVariants.{Nothing, ForLine, ForEvent}
use Rattle.muck_queue.specs.Queues.{Queue, units_counted, resting, process_in_mode, told_line, told_event, woken, next_due, claimed, released, without_process, is_queue_full, process_added, has_process_tied, is_busy, reader, oldest_event, ended_tied, ended_running, trigger_cleared, number_most}

abbrev pub program_of : ℤ → Program
program_of number = record { number = number; tree = record { words = []; variables = 0 } }

-- a program that runs, called from the others, the nearest first
abbrev pub standing_in : ℤ → List ℤ → Source
standing_in number callers = record {
  stack = [];
  common = [];
  owned = [];
  variables = [];
  program = program_of number;
  now = stop;
  end = closes Semicolon 1;
  marks = map (λ caller. entering (program_of caller) [] stop (closes Semicolon 1)) callers;
}

-- a process of #1 that runs a program, called from the others, and that #4 started
abbrev pub process_in : ℤ → List ℤ → ℤ → ℕ → Process
process_in program callers n due = record {
  number = n;
  due = due;
  player = dbref_of 1;
  trigger = dbref_of 4;
  command = codes "go";
  descr = None;
  program = dbref_of 5;
  mode = Foreground;
  wait = Nothing;
  units = 0;
  section = 0;
  events = [];
  running = Some (standing_in program callers);
}

-- one that runs program #5
abbrev pub sample : ℤ → ℕ → Process
sample = process_in (pos 5) []

abbrev pub tied_to : ℕ → Process → Process
tied_to d p = record p { descr = Some d }

abbrev pub of_player : ℕ → Process → Process
of_player n p = record p { player = dbref_of n }

abbrev pub numbers : Queue → List ℤ
numbers q = map (λ p. p.number) q.processes

-- 1 is due in second 5, 2 and 4 in second 3, and 4 numbers were given
abbrev pub three : Queue
three = record { processes = sample (pos 1) 5 ∷ sample (pos 2) 3 ∷ sample (pos 4) 3 ∷ []; last = pos 4; claims = [] }

-- Which is claimed.

first_due_row : next_due 9 three ≡ Some (pos 2)
unfolding next_due
first_due_row = refl

same_second_row : next_due 9 (claimed (pos 2) 7 three) ≡ Some (pos 4)
unfolding next_due claimed
same_second_row = refl

later_second_row : next_due 9 (claimed (pos 4) 7 (claimed (pos 2) 7 three)) ≡ Some (pos 1)
unfolding next_due claimed
later_second_row = refl

too_early_row : next_due 4 (claimed (pos 4) 7 (claimed (pos 2) 7 three)) ≡ None
unfolding next_due claimed
too_early_row = refl

nothing_due_row : next_due 2 three ≡ None
unfolding next_due
nothing_due_row = refl

its_second_row : next_due 3 three ≡ Some (pos 2)
unfolding next_due
its_second_row = refl

-- who has what, also once it has ended
claimed_row : (claimed (pos 2) 7 three).claims ≡ record { number = pos 2; party = 7 } ∷ []
unfolding claimed
claimed_row = refl

ended_row : (without_process (pos 2) (claimed (pos 2) 7 three)).claims ≡ record { number = pos 2; party = 7 } ∷ []
unfolding claimed without_process
ended_row = refl

-- until it is released
released_row : next_due 9 (released (pos 2) (claimed (pos 4) 7 (claimed (pos 2) 7 three))) ≡ Some (pos 2)
unfolding next_due claimed released
released_row = refl

-- Adding and taking.

-- a number isn't given again
added_row : numbers (process_added (sample (pos 0) 8) (without_process (pos 4) three)) ≡ pos 1 ∷ pos 2 ∷ pos 5 ∷ []
unfolding process_added without_process
added_row = refl

-- this many in all, and this many of a player
abbrev pub limits : ℕ → ℕ → Tune
limits most own = record first_tune { process_limit = most; player_processes = own }

abbrev pub of_two : Queue
of_two = record { processes = sample (pos 1) 5 ∷ of_player 2 (sample (pos 2) 5) ∷ []; last = pos 2; claims = [] }

has_room_row : is_queue_full (dbref_of 1) (limits 3 2) of_two ≡ false
unfolding is_queue_full number_most
has_room_row = refl

all_full_row : is_queue_full (dbref_of 1) (limits 2 2) of_two ≡ true
unfolding is_queue_full number_most
all_full_row = refl

own_full_row : is_queue_full (dbref_of 1) (limits 3 1) of_two ≡ true
unfolding is_queue_full number_most
own_full_row = refl

other_player_row : is_queue_full (dbref_of 3) (limits 3 1) of_two ≡ false
unfolding is_queue_full number_most
other_player_row = refl

no_number_row : is_queue_full (dbref_of 3) (limits 3 1) (record { processes = []; last = pos 2147483647; claims = [] }) ≡ true
unfolding is_queue_full number_most
no_number_row = refl

-- What ends.

abbrev pub ties : Queue
ties = record { processes = tied_to 7 (sample (pos 1) 5) ∷ sample (pos 2) 5 ∷ tied_to 8 (sample (pos 3) 5) ∷ []; last = pos 3; claims = [] }

is_tied_row : has_process_tied 7 ties ≡ true
unfolding has_process_tied
is_tied_row = refl

not_tied_row : has_process_tied 9 ties ≡ false
unfolding has_process_tied
not_tied_row = refl

ended_tied_row : numbers (ended_tied 7 ties) ≡ pos 2 ∷ pos 3 ∷ []
unfolding ended_tied
ended_tied_row = refl

-- 1 runs #5, 2 runs #6, which #5 called, and 3 runs #6
abbrev pub runners : Queue
runners = record {
  processes = sample (pos 1) 5 ∷ process_in (pos 6) (pos 5 ∷ []) (pos 2) 5 ∷ process_in (pos 6) [] (pos 3) 5 ∷ [];
  last = pos 3;
  claims = [];
}

ended_running_row : numbers (ended_running (dbref_of 5) runners) ≡ pos 3 ∷ []
unfolding ended_running
ended_running_row = refl

ended_other_row : numbers (ended_running (dbref_of 6) runners) ≡ pos 1 ∷ []
unfolding ended_running
ended_other_row = refl

cleared_row : map (λ p. p.trigger) (trigger_cleared (dbref_of 4) of_two).processes ≡ nothing ∷ nothing ∷ []
unfolding trigger_cleared
cleared_row = refl

kept_trigger_row : map (λ p. p.trigger) (trigger_cleared (dbref_of 5) of_two).processes ≡ dbref_of 4 ∷ dbref_of 4 ∷ []
unfolding trigger_cleared
kept_trigger_row = refl

-- What a process waits for.

abbrev pub waiting : Wait → Process → Process
waiting wait p = record p { wait = wait }

abbrev pub only : Process → Queue
only p = record { processes = p ∷ []; last = pos 1; claims = [] }

-- an event with the number 7, and one with the number 8
abbrev pub chime : List ℕ × Datum
chime = (codes "chime", int (pos 7))

abbrev pub knock : List ℕ × Datum
knock = (codes "knock", int (pos 8))

-- one that waits for an event since second 3
abbrev pub awaiting : Process
awaiting = waiting ForEvent (sample (pos 1) 3)

-- one that waits for a line of the connection 7 since second 3
abbrev pub reading : Process
reading = waiting ForLine (tied_to 7 (sample (pos 1) 3))

abbrev pub stack_of : Process → List Datum
stack_of p = option_map_or (λ s. s.stack) p.running []

reading_row : next_due 9 (only reading) ≡ None
unfolding next_due
reading_row = refl

awaiting_row : next_due 9 (only awaiting) ≡ None
unfolding next_due
awaiting_row = refl

-- the event is there, in second 5
event_there_row : next_due 5 (only (told_event 5 chime awaiting)) ≡ Some (pos 1)
unfolding next_due
event_there_row = refl

not_before_row : next_due 4 (only (told_event 5 chime awaiting)) ≡ None
unfolding next_due
not_before_row = refl

-- a second event changes nothing of that
second_event_row : (told_event 6 knock (told_event 5 chime awaiting)).due ≡ 5
second_event_row = refl

-- nor does one for which a process doesn't wait
unawaited_row : (told_event 5 chime (sample (pos 1) 3)).due ≡ 3
unawaited_row = refl

told_event_row : (told_event 6 knock (told_event 5 chime awaiting)).events ≡ chime ∷ knock ∷ []
told_event_row = refl

oldest_row : oldest_event (pos 1) (only (told_event 6 knock (told_event 5 chime awaiting))) ≡ Some chime
unfolding oldest_event
oldest_row = refl

-- The oldest is what it gets: what came with it, and upon that the name. The other stays.
woken_row : stack_of (woken 8 (told_event 6 knock (told_event 5 chime awaiting))) ≡ text (codes "chime") ∷ int (pos 7) ∷ []
woken_row = refl

woken_left_row : (woken 8 (told_event 6 knock (told_event 5 chime awaiting))).events ≡ knock ∷ []
woken_left_row = refl

woken_wait_row : (woken 8 (told_event 5 chime awaiting)).wait ≡ Nothing
woken_wait_row = refl

-- its second is the present one, and its section begins
woken_due_row : (woken 8 (sample (pos 1) 3)).due ≡ 8
woken_due_row = refl

woken_section_row : (woken 8 (record (sample (pos 1) 3) { section = 5 })).section ≡ 0
woken_section_row = refl

-- what waits for nothing gets no event
kept_event_row : stack_of (woken 8 (told_event 5 chime (sample (pos 1) 3))) ≡ []
kept_event_row = refl

-- Lines.

told_line_row : told_line 8 (codes "hello") reading ≡ record reading { due = 8; wait = Nothing; running = Some (record (standing_in (pos 5) []) { stack = text (codes "hello") ∷ [] }) }
told_line_row = refl

reader_row : reader 7 (only reading) ≡ Some (pos 1)
unfolding reader
reader_row = refl

other_reader_row : reader 8 (only reading) ≡ None
unfolding reader
other_reader_row = refl

no_reader_row : reader 7 ties ≡ None
unfolding reader
no_reader_row = refl

busy_row : is_busy 7 ties ≡ true
unfolding is_busy
busy_row = refl

reading_free_row : is_busy 7 (only reading) ≡ false
unfolding is_busy
reading_free_row = refl

not_busy_row : is_busy 9 ties ≡ false
unfolding is_busy
not_busy_row = refl

-- Units and modes.

-- one that has taken 5 units, 2 of them in its section
abbrev pub running_in : Mode → Process
running_in mode = record (tied_to 7 (sample (pos 1) 3)) { mode = mode; units = 5; section = 2 }

counted_row : units_counted 3 (running_in Foreground) ≡ record (running_in Foreground) { units = 8 }
counted_row = refl

counted_section_row : units_counted 3 (running_in Preempt) ≡ record (running_in Preempt) { units = 8; section = 5 }
counted_section_row = refl

-- as far as such counts go
counted_most_row : (units_counted 3 (record (sample (pos 1) 3) { units = 18446744073709551614 })).units ≡ 18446744073709551615
counted_most_row = refl

resting_row : resting ForLine (running_in Preempt) ≡ record (running_in Preempt) { wait = ForLine; units = 0; section = 0 }
resting_row = refl

-- a section begins
preempt_row : process_in_mode Preempt (running_in Foreground) ≡ record (running_in Preempt) { section = 0 }
preempt_row = refl

-- and doesn't begin anew
preempt_again_row : process_in_mode Preempt (running_in Preempt) ≡ running_in Preempt
preempt_again_row = refl

-- in the background it has no connection, and gets none in the foreground
background_row : (process_in_mode Background (running_in Foreground)).descr ≡ None
background_row = refl

foreground_row : (process_in_mode Foreground (process_in_mode Background (running_in Foreground))).descr ≡ None
foreground_row = refl

kept_descr_row : (process_in_mode Preempt (running_in Foreground)).descr ≡ Some 7
kept_descr_row = refl
