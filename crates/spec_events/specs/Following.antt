-- What follows from a change of objects.
use Rattle.std.specs.Prelude.{◌≡◌, ℕ, zero, suc, Bool, false, List, [], ◌∷◌, map, is_some}
use Rattle.std.specs.Option.{option_map_or}
use Rattle.muck_model.specs.declared.dbref.Dbref.{Dbref}
use Rattle.spec_live.specs.declared.mark.Mark.{Mark}
use Rattle.spec_live.specs.declared.mark.Mark.TheVariants.{Lines, Gone}
use Rattle.spec_live.specs.Objects.{Entry, dbref_of}
use Rattle.spec_live.specs.Marks.{entry_unmarked}
use Rattle.spec_live.specs.Boards.{editors_closed}
use Rattle.spec_live.specs.Lives.{on_objects, on_board}
use Rattle.muck_library.specs.Library.{form_dropped}
use Rattle.muck_queue.specs.declared.process.Process.{Process}
use Rattle.muck_queue.specs.Queues.{runs_in, ended_running, trigger_cleared}
use Rattle.spec_events.specs.World.{World, on_live, on_queue, with_library}

-- the built form of a program is dropped, and the processes that run it end
abbrev pub unbuilt : Dbref → World → World
unbuilt d w = on_queue (ended_running d) (with_library (form_dropped d w.library) w)

-- The source of a program changed; or an object is gone, so that nothing was started by it any more and nobody edits it.
abbrev pub mark_followed : Mark → Dbref → World → World
mark_followed Lines d w = unbuilt d w
mark_followed Gone d w = on_live (on_board (editors_closed d)) (on_queue (trigger_cleared d) (unbuilt d w))

-- what follows for each of these objects, by number, where the first number is n
unfoldable pub swept : ℕ → List Entry → World → World
swept n [] w = w
swept n (e ∷ es) w = swept (suc n) es (option_map_or (λ mark. mark_followed mark (dbref_of n) w) e.mark w)

-- Everything that is to be told of objects is told, with what follows from it.
unfoldable pub settled : World → World
settled w = on_live (on_objects (map entry_unmarked)) (swept 0 w.live.objects w)

-- something of this object is to be told
abbrev pub is_marked : ℕ → List Entry → Bool
is_marked n [] = false
is_marked zero (e ∷ es) = is_some e.mark
is_marked (suc n) (e ∷ es) = is_marked n es

-- none of these processes is in the program
abbrev pub NoneIn : Dbref → List Process → Type 0
NoneIn d [] = Unit {0}
NoneIn d (p ∷ ps) = (runs_in d p ≡ false) × NoneIn d ps
