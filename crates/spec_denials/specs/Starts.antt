-- Which programs lines start.
use Rattle.std.specs.Prelude.{◌≡◌, ◌⊎◌, List, [], ◌∷◌, ◌++◌, None}
use Rattle.spec_rights.specs.declared.act.Act.TheVariants.{Start}
use Rattle.spec_rights.specs.Verdict.{verdict}
use Rattle.spec_commands.specs.Finding.{actor_of}
use Rattle.muck_queue.specs.declared.process.Process.{Process}
use Rattle.spec_events.specs.World.{World}

-- Nothing is started from one world to another; or one process is, behind all others, and its player may start its program there.
abbrev pub LineStarts : World → World → Type 0
LineStarts w v =
    (v.queue.last ≡ w.queue.last)
    ⊎ ((ps : List Process) × (p : Process) × (v.queue.processes ≡ ps ++ p ∷ []) × (verdict v.live.objects (actor_of v.live.objects p.player) (Start p.program) ≡ None))
