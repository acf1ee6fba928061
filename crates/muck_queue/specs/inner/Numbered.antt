-- How the processes are numbered.
use Rattle.std.specs.Prelude.{ℤ, pos, ◌<ℤ◌, ◌≤ℤ◌, List, [], ◌∷◌}
use Rattle.muck_queue.specs.declared.process.Process.{Process}
use Rattle.muck_queue.specs.Queues.{Queue}

-- the numbers rise from above the first of these to at most the second
abbrev pub Rises : ℤ → ℤ → List Process → Type 0
Rises low last [] = low ≤ℤ last
Rises low last (p ∷ ps) = (low <ℤ p.number) × Rises p.number last ps

-- The numbers rise from 1 on, and none is above the last one that was given.
unfoldable pub IsNumbered : Queue → Type 0
IsNumbered q = Rises (pos 0) q.last q.processes
