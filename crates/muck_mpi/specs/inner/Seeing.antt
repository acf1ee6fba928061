-- What formulas see of a guard, and what they do to it.
use Rattle.std.specs.Prelude.{◌≡◌, Result, Ok, Err}
use Rattle.spec_live.specs.declared.fault.DbFault.{DbFault}
use Rattle.mpi.specs.declared.fault.MpiFault.{MpiFault}
use Rattle.mpi.specs.declared.fault.MpiFault.TheVariants.{NoMemory}
use Rattle.mpi.specs.Hosting.{Meant}
use Rattle.muck_perm.specs.declared.guard.Guard.{Guard}
use Rattle.muck_perm.specs.inner.Guards.{world_of, Same}
use Rattle.spec_mpi.specs.Stages.{MpiStage}
use Rattle.spec_mpi.specs.Doing.{Done}

-- the world that a guard lends, and who acts
abbrev pub stage_of : Guard → MpiStage
stage_of g = record { actor = g.actor; live = world_of g }

-- a deed was done, or has its fault; the guard holds the same places
abbrev pub Did : Done → Guard → Guard → Result (Unit {0}) MpiFault → Type 0
Did meant old new result = Meant meant (stage_of new) result × Same old new

-- what was answered of an object that is there, of which a writer may only want memory
abbrev pub IsWritten : Result (Unit {0}) DbFault → Result (Unit {0}) MpiFault → Type 0
IsWritten (Ok u) result = result ≡ Ok tt
IsWritten (Err fault) result = result ≡ Err NoMemory
