-- The world as a value.
use Rattle.std.specs.Prelude.{ℕ, Bool, false, not, ◌==◌, List, [], ◌∷◌, ◌++◌, Option, Some, None}
use Rattle.std.specs.List.{filter}
use Rattle.std.specs.Option.{option_map, option_map_or}
use Rattle.muck_model.specs.declared.tune.Tune.{Tune}
use Rattle.spec_live.specs.Objects.{Entry}
use Rattle.spec_live.specs.Start.{first_objects}
use Rattle.spec_live.specs.Connections.{Connection}
use Rattle.spec_live.specs.Boards.{connection_in, queue_in, is_leaving_in, first_tune, early_board}
use Rattle.spec_live.specs.Lives.{Live, Change}
use Rattle.muck_library.specs.Library.{Library}
use Rattle.muck_queue.specs.Queues.{Queue, empty_queue}

-- The dump that runs, by its number, with the connections that asked for it; those that ask for the next one, where one is
-- asked; and the moment at which the last one began.
pub record Dumps : Type 0 where
  pub running : Option (ℕ × List ℕ)
  pub asked : Option (List ℕ)
  pub last : ℕ

-- The world: what commands and programs change, the built forms of its programs, its processes, the second that it is,
-- its dumps, and whether it is stopping or dead.
pub record World : Type 0 where
  pub live : Live
  pub library : Library
  pub queue : Queue
  pub moment : ℕ
  pub dumps : Dumps
  pub stopping : Bool
  pub dead : Bool

-- no dump runs or is asked
abbrev pub no_dumps : ℕ → Dumps
no_dumps moment = record { running = None; asked = None; last = moment }

-- all of them but the connection d
abbrev pub others_than : ℕ → List ℕ → List ℕ
others_than d askers = filter (λ n. not (n == d)) askers

-- the connection d asks for the next dump, once for all its lines that do
abbrev pub asked_by : ℕ → Dumps → Dumps
asked_by d dumps = record dumps { asked = Some (option_map_or (others_than d) dumps.asked [] ++ d ∷ []) }

-- the connection d has gone, and nothing of a dump is shown to it any more
abbrev pub unasked : ℕ → Dumps → Dumps
unasked d dumps = record dumps { running = option_map (λ r. (r.0, others_than d r.1)) dumps.running; asked = option_map (others_than d) dumps.asked }

-- the dump k begins at this moment: those that ask now ask for it
abbrev pub dump_begun : ℕ → ℕ → Dumps → Dumps
dump_begun k moment dumps = record { running = Some (k, option_map_or (λ askers. askers) dumps.asked []); asked = None; last = moment }

-- the dump that ran is over
abbrev pub dump_over : Dumps → Dumps
dump_over dumps = record dumps { running = None }

-- who asked for the dump that runs
abbrev pub askers_of : Dumps → List ℕ
askers_of dumps = option_map_or (λ r. r.1) dumps.running []

-- the dump that runs has this number
abbrev pub runs_dump : ℕ → Dumps → Bool
runs_dump k dumps = option_map_or (λ r. r.0 == k) dumps.running false

-- The world of these objects at this moment, in which nobody is connected, no program is built and nothing runs, and
-- whose random numbers begin so.
unfoldable pub world_booted : List Entry → Tune → ℕ → ℕ → World
world_booted objects tune moment start = record {
  live = record { objects = objects; board = early_board start tune };
  library = [];
  queue = empty_queue;
  moment = moment;
  dumps = no_dumps moment;
  stopping = false;
  dead = false;
}

-- Room Zero and One, and nothing else is as yet as anybody made it
unfoldable pub starting_world : World
starting_world = world_booted first_objects first_tune 0 0

-- the connection of a number
abbrev pub connection : ℕ → World → Option Connection
connection d w = connection_in d w.live.board

-- the bytes that wait to be sent to it
abbrev pub queue_of : ℕ → World → List ℕ
queue_of d w = queue_in d w.live.board

abbrev pub is_leaving : ℕ → World → Bool
is_leaving d w = is_leaving_in d w.live.board

-- with a change of its live part
abbrev pub on_live : Change → World → World
on_live f w = record w { live = f w.live }

-- with a change of its processes
abbrev pub on_queue : (Queue → Queue) → World → World
on_queue f w = record w { queue = f w.queue }

-- with a change of its dumps
abbrev pub on_dumps : (Dumps → Dumps) → World → World
on_dumps f w = record w { dumps = f w.dumps }

-- with these built forms
abbrev pub with_library : Library → World → World
with_library library w = record w { library = library }
