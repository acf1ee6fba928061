-- What is told of what a maker answered.
use Rattle.std.specs.Prelude.{◌≡◌, ℕ, OnOk, Result, Ok, Err}
use Rattle.muck_model.specs.declared.dbref.Dbref.{Dbref}
use Rattle.muck_model.specs.declared.memory.NoMemory.{NoMemory}
use Rattle.spec_live.specs.declared.fault.DbFault.{DbFault}
use Rattle.spec_live.specs.declared.fault.DbFault.TheVariants.{NoMemory as WantsMemory}
use Rattle.spec_live.specs.Lives.{tell}
use Rattle.spec_rights.specs.Levels.{dbref_number}
use Rattle.spec_commands.specs.Replies.{cant_be_done}
use Rattle.spec_commands.specs.Building.{created_shown}
use Rattle.muck_perm.specs.declared.guard.Guard.{Guard}
use Rattle.muck_perm.specs.inner.Guards.{Did}

-- the new object, or that it can't be done; where memory was wanted nothing
abbrev pub IsTold : ℕ → Result Dbref DbFault → Guard → Guard → Result (Unit {0}) NoMemory → Type 0
IsTold d (Ok x) old new result = Did (created_shown d (dbref_number x)) old new result
IsTold d (Err WantsMemory) old new result = (new ≡ old) × OnOk result ⊥
IsTold d (Err fault) old new result = Did (tell d cant_be_done) old new result
