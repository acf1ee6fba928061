-- Which processes may end.
use Rattle.std.specs.Prelude.{◌≡◌, ◌⊎◌, ℤ, Bool, true, ◌||◌, List, Option, Some, None}
use Rattle.muck_model.specs.declared.dbref.Dbref.{Dbref}
use Rattle.spec_live.specs.Objects.{Entry, same, object_at}
use Rattle.spec_live.specs.Lives.{Live}
use Rattle.spec_rights.specs.declared.act.Actor.{Actor}
use Rattle.spec_rights.specs.Levels.{owner_at}
use Rattle.spec_rights.specs.Verdict.{is_master}
use Rattle.muck_queue.specs.declared.process.Process.{Process}
use Rattle.muck_queue.specs.Queues.{has_pid, process, runs_in}
use Rattle.spec_commands.specs.Programming.{source_of}
use Rattle.spec_events.specs.World.{World}

-- each process that was there is there, or may end
abbrev pub Remains : (Process → Type 0) → Option Process → Option Process → Type 0
Remains may (Some p) None = may p
Remains may old new = Unit {0}

abbrev pub ProcessesLicensed : (Process → Type 0) → World → World → Type 0
ProcessesLicensed may w v = (pid : ℤ) → Remains may (process pid w.queue) (process pid v.queue)

-- none may end
abbrev pub NoProcess : Process → Type 0
NoProcess p = ⊥

-- its player or the owner of its program is the user, or the actor is at the highest level
abbrev pub end_open : Actor → List Entry → Process → Bool
end_open a es p = is_master a || (same p.player a.user || same (owner_at es p.program) a.user)

-- a program is gone, or its source is another
abbrev pub Lapsed : Dbref → Live → Live → Type 0
Lapsed d w v = (object_at d v.objects ≡ None) ⊎ (source_of d v ≡ source_of d w → ⊥)

-- a process may end by its actor, or as a consequence for a program on its call stack
pub data MayEnd (a : Actor) (w v : Live) (p : Process) : Type 0 where
  by_actor : end_open a w.objects p ≡ true → MayEnd a w v p
  by_program : (program : Dbref) → runs_in program p ≡ true → Lapsed program w v → MayEnd a w v p

-- In a unit of the process of this number a process may end by itself, by who acts in the unit, or as a consequence for a
-- program on its call stack.
pub data EndsIn (pid : ℤ) (a : Actor) (w v : Live) (p : Process) : Type 0 where
  by_itself : has_pid pid p ≡ true → EndsIn pid a w v p
  by_actor : end_open a w.objects p ≡ true → EndsIn pid a w v p
  by_change : (program : Dbref) → runs_in program p ≡ true → Lapsed program w v → EndsIn pid a w v p

-- by a line for a process that reads that one ends, where the line says so
abbrev pub EndsReading : ℤ → Process → Type 0
EndsReading pid p = has_pid pid p ≡ true
