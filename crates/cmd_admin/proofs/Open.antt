-- What a line of a keeper does is open to it.
use Rattle.std.proofs.Common.{ℕ, List, None, Result, Ok, Err, sym, subst}
use Rattle.std.specs.Prelude.{OnOk}
use Rattle.muck_model.specs.declared.memory.NoMemory.{NoMemory}
use Rattle.spec_live.specs.Lives.{Live}
use Rattle.spec_rights.specs.Licence.{Licensed, nobody}
use Rattle.spec_commands.specs.declared.outcome.Outcome.{Outcome}
use Rattle.muck_queue.specs.Queues.{Queue}
use Rattle.spec_admin.specs.Lines.{admin_line}
use Rattle.spec_admin.proofs.Permitted.{admin_open}
use Rattle.muck_perm.specs.declared.guard.Guard.{Guard}
use Rattle.muck_perm.specs.inner.Guards.{world_of}
use Rattle.cmd_common.specs.inner.Plays.{Plays}

pub plays_open : (q : Queue) (d : ℕ) (line : List ℕ) (old new : Guard) (result : Result Outcome NoMemory) → Plays (admin_line q d old.actor line) old new result →
    OnOk result (Licensed old.actor nobody (world_of old) (world_of new))
plays_open q d line old new (Ok outcome) p =
    let P : Live → Type 0 = λ w. Licensed old.actor nobody (world_of old) w in
    subst P (sym p.0.0) (((admin_open old.actor None (λ es. nobody) q d line).law (world_of old)).law tt tt).licensed
plays_open q d line old new (Err e) p = tt
