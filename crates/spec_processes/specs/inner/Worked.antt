-- Worked rows of the primitives of processes, which the checker computes.
use Rattle.std.specs.Prelude.{◌≡◌, ℕ, pos, negsuc, List, [], ◌∷◌, codes, Option, Some, None, refl}
use Rattle.std.specs.Option.{option_map_or}
use Rattle.spec_live.specs.Objects.{dbref_of, object_at, number_in, kind_in, object_in}
use Rattle.spec_live.specs.Boards.{first_tune, early_board}
use Rattle.spec_live.specs.Lives.{Live}
use Rattle.spec_rights.specs.Levels.{owner_at}
use Rattle.spec_live.specs.Start.{room_zero, player_one, first_objects}
use Rattle.muf_model.specs.declared.fault.MufFault.TheVariants.{StackEmpty, BadType, BadArgument, NoSuchObject, Denied, BadSleep, CannotRead}
use Rattle.muf_model.specs.declared.prims.Primitive.TheVariants.{Call, Sleep, Read, Kill, SetMode, Foreground, EventSend, EventWait, EventCount, Caller}
use Rattle.muf_model.specs.Prims.{primitives, named_in_any_case}
use Rattle.muf_model.specs.Datum.{Datum, int, text, object}
use Rattle.spec_prims.specs.Asking.{level_fault, is_number_there, near_fault}
use Rattle.spec_prims.specs.inner.Rows.{at_first, acting_at}
use Rattle.muck_queue.specs.declared.mode.Mode.{Mode}
use Rattle.muck_queue.specs.declared.mode.Mode.TheVariants as mode
use Rattle.muck_queue.specs.declared.mode.Wait.TheVariants.{Nothing, ForLine, ForEvent}
use Rattle.muck_queue.specs.declared.process.Process.{Process}
use Rattle.muck_queue.specs.Queues.{Queue, on_process, without_process, resting, sleeping, process_in_mode, told_event, without_event}
use Rattle.spec_processes.specs.declared.place.Place.{Place}
use Rattle.spec_processes.specs.ProcessRows.{Effect, gives, waits, refuses, event_data, processed}

-- a process of #7, which isn't there, in that mode and tied to that connection, with these events
abbrev pub process_of : ℕ → Mode → Option ℕ → List (List ℕ × Datum) → Process
process_of n m descr events = record {
  number = pos n;
  due = 0;
  player = dbref_of 7;
  trigger = dbref_of 0;
  command = codes "go";
  descr = descr;
  program = dbref_of 8;
  mode = m;
  wait = Nothing;
  units = 0;
  section = 0;
  events = events;
  running = None;
}

abbrev pub rung : List ℕ × Datum
rung = (codes "USER.bell", int (pos 3))

abbrev pub fore : Process
fore = process_of 1 mode.Foreground (Some 9) (rung ∷ [])

abbrev pub back : Process
back = process_of 2 mode.Background None []

-- one in the foreground that has an event, and one in the background
abbrev pub both : Queue
both = record { processes = fore ∷ back ∷ []; last = pos 2; claims = [] }

-- in the second 100, in the process of that number
abbrev pub place_of : ℕ → Place
place_of n = record { pid = pos n; program = dbref_of 8; caller = None; moment = 100 }

abbrev pub number : ℕ → Datum
number n = int (pos n)

abbrev pub send_bell : ℕ → List Datum
send_bell n = number 5 ∷ text (codes "bell") ∷ number n ∷ []

-- the primitive of that name, and then MODE
abbrev pub using : List ℕ → List Datum → Live → Queue → Effect
using name stack w q = option_map_or (λ p. processed p (place_of 1) (acting_at 1 1) 0 stack w q) (named_in_any_case name) (refuses BadType)

abbrev pub mode_told : Effect → Effect
mode_told (gives items w q) = using (codes "MODE") items w q
mode_told effect = effect

-- the rows
unfoldable pub WorkedRows : Type 0
WorkedRows =
    -- KILL by its rule, and of one that isn't there
    (processed Kill (place_of 1) (acting_at 3 1) 0 (number 2 ∷ []) at_first both ≡ refuses (Denied 23))
    × (processed Kill (place_of 1) (acting_at 4 1) 0 (number 2 ∷ []) at_first both ≡ gives (number 1 ∷ []) at_first (without_process (pos 2) both))
    × (processed Kill (place_of 1) (acting_at 3 7) 0 (number 1 ∷ []) at_first both ≡ gives (number 1 ∷ []) at_first (without_process (pos 1) both))
    × (processed Kill (place_of 1) (acting_at 3 1) 0 (number 3 ∷ []) at_first both ≡ gives (number 0 ∷ []) at_first both)
    -- no sleep for less than no time
    × (processed Sleep (place_of 1) (acting_at 1 1) 0 (int (negsuc 0) ∷ []) at_first both ≡ refuses BadSleep)
    × (processed Sleep (place_of 1) (acting_at 1 1) 0 (number 5 ∷ number 6 ∷ []) at_first both ≡ waits 0 (number 6 ∷ []) (on_process (pos 1) (sleeping 105) both))
    -- a line is waited for, but in the background
    × (processed Read (place_of 1) (acting_at 1 1) 0 [] at_first both ≡ waits 1 [] (on_process (pos 1) (resting ForLine) both))
    × (processed Read (place_of 2) (acting_at 1 1) 0 [] at_first both ≡ refuses CannotRead)
    -- modes: no fourth one, and none in the foreground again without a connection
    × (processed SetMode (place_of 1) (acting_at 1 1) 0 (number 3 ∷ []) at_first both ≡ refuses BadArgument)
    × (processed SetMode (place_of 2) (acting_at 1 1) 0 (number 1 ∷ []) at_first both ≡ refuses BadArgument)
    × (processed Foreground (place_of 2) (acting_at 1 1) 0 [] at_first both ≡ refuses BadArgument)
    × (processed SetMode (place_of 2) (acting_at 1 1) 0 (number 0 ∷ []) at_first both ≡ gives [] at_first (on_process (pos 2) (process_in_mode mode.Preempt) both))
    -- the modes by their names and numbers
    × (mode_told (using (codes "PREEMPT") [] at_first both) ≡ gives (number 0 ∷ []) at_first (on_process (pos 1) (process_in_mode mode.Preempt) both))
    × (mode_told (using (codes "FOREGROUND") [] at_first both) ≡ gives (number 1 ∷ []) at_first (on_process (pos 1) (process_in_mode mode.Foreground) both))
    × (mode_told (using (codes "BACKGROUND") [] at_first both) ≡ gives (number 2 ∷ []) at_first (on_process (pos 1) (process_in_mode mode.Background) both))
    × (using (codes "SETMODE") (number 2 ∷ []) at_first both ≡ using (codes "BACKGROUND") [] at_first both)
    × (using (codes "SETMODE") (number 1 ∷ []) at_first both ≡ using (codes "FOREGROUND") [] at_first both)
    × (using (codes "SETMODE") (number 0 ∷ []) at_first both ≡ using (codes "PREEMPT") [] at_first both)
    -- the oldest event, its name on the top; and where there is none it is waited for
    × (processed EventWait (place_of 1) (acting_at 1 1) 0 [] at_first both ≡ gives (text (codes "USER.bell") ∷ number 3 ∷ []) at_first (on_process (pos 1) without_event both))
    × (processed EventWait (place_of 2) (acting_at 1 1) 0 [] at_first both ≡ waits 2 [] (on_process (pos 2) (resting ForEvent) both))
    × (processed EventCount (place_of 1) (acting_at 1 1) 0 [] at_first both ≡ gives (number 1 ∷ []) at_first both)
    -- an event for one that is there, and for one that isn't
    × (processed EventSend (place_of 1) (acting_at 3 1) 0 (send_bell 2) at_first both
    ≡ gives [] at_first (on_process (pos 2) (told_event 100 (codes "USER.bell", event_data (place_of 1) (acting_at 3 1) fore (number 5))) both))
    × (processed EventSend (place_of 1) (acting_at 3 1) 0 (send_bell 3) at_first both ≡ gives [] at_first both)
    -- CALL takes two items where a text is on the top: too few of them, and none that is a program, or is there
    × (processed Call (place_of 1) (acting_at 1 1) 0 (text (codes "go") ∷ []) at_first both ≡ refuses StackEmpty)
    × (processed Call (place_of 1) (acting_at 1 1) 0 (text (codes "go") ∷ object (pos 0) ∷ []) at_first both ≡ refuses BadType)
    × (processed Call (place_of 1) (acting_at 1 1) 0 (object (pos 8) ∷ []) at_first both ≡ refuses NoSuchObject)
    -- no program called the one that runs
    × (processed Caller (place_of 1) (acting_at 1 1) 0 [] at_first both ≡ gives (object (pos 0) ∷ []) at_first both)

pub worked_rows : WorkedRows
unfolding WorkedRows owner_at first_tune early_board object_at number_in kind_in object_in room_zero player_one first_objects level_fault is_number_there near_fault processed primitives named_in_any_case on_process
worked_rows = (refl, refl, refl, refl, refl, refl, refl, refl, refl, refl, refl, refl, refl, refl, refl, refl, refl, refl, refl, refl, refl, refl, refl, refl, refl, refl, refl)
