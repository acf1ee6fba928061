-- Which processes a primitive may end.
use Rattle.std.specs.Prelude.{◌≡◌, ℤ, List, Option, Some, None}
use Rattle.spec_live.specs.Objects.{Entry}
use Rattle.spec_rights.specs.declared.act.Actor.{Actor}
use Rattle.spec_rights.specs.declared.act.Act.TheVariants.{EndProcess}
use Rattle.spec_rights.specs.Verdict.{verdict}
use Rattle.muck_queue.specs.declared.process.Process.{Process}
use Rattle.muck_queue.specs.Queues.{Queue as Table, process}

-- each process that was there is there, or may be ended by the actor; and none is there that wasn't
abbrev pub Remains : Actor → List Entry → Option Process → Option Process → Type 0
Remains a es (Some p) (Some r) = Unit {0}
Remains a es (Some p) None = verdict es a (EndProcess p.player p.program) ≡ None
Remains a es None (Some r) = ⊥
Remains a es None None = Unit {0}

abbrev pub ProcessesLicensed : Actor → List Entry → Table → Table → Type 0
ProcessesLicensed a es was is = (pid : ℤ) → Remains a es (process pid was) (process pid is)
