-- What the code of a change answers.
use Rattle.std.specs.Prelude.{◌≡◌, Some, Result, Ok, Err}
use Rattle.muck_model.specs.declared.dbref.Dbref.{Dbref}
use Rattle.spec_live.specs.declared.fault.DbFault.{DbFault}
use Rattle.spec_live.specs.declared.fault.DbFault.TheVariants.{NoMemory as WantsMemory, WorldFull as NoRoom}
use Rattle.spec_rights.specs.declared.act.Act.{Act}
use Rattle.spec_rights.specs.Verdict.{verdict}
use Rattle.muck_perm.specs.declared.guard.Guard.{Guard}
use Rattle.muck_perm.specs.declared.rules.Pass.{Pass}
use Rattle.muck_perm.specs.inner.Guards.{IsLeave, objects_of}
use Rattle.muf_model.specs.declared.fault.MufFault.TheVariants.{BadArgument, WorldFull}
use Rattle.muf_model.specs.declared.value.Value.TheVariants.{Ref}
use Rattle.muf_frame.specs.declared.fault.PrimFault.{PrimFault}
use Rattle.muf_frame.specs.declared.fault.PrimFault.TheVariants.{Fault, NoMemory}
use Rattle.spec_prims.specs.Asking.{fault_of_denial}
use Rattle.prim_common.specs.declared.made.Made.{Made}
use Rattle.prim_common.specs.declared.made.Made.TheVariants.{One}

-- leave for the act, or the fault of the rule that denies it
abbrev pub Leaves : Act → Guard → Result Pass PrimFault → Type 0
Leaves act g (Ok pass) = IsLeave pass act g
Leaves act g (Err (Fault f)) = fault_of_denial (verdict (objects_of g) g.actor act) ≡ Some f
Leaves act g (Err NoMemory) = ⊥

-- the number of what was made, or why nothing was
abbrev pub IsMade : Result Dbref DbFault → Result Made PrimFault → Type 0
IsMade (Ok object) result = result ≡ Ok (One (Ref object))
IsMade (Err WantsMemory) result = result ≡ Err NoMemory
IsMade (Err NoRoom) result = result ≡ Err (Fault WorldFull)
IsMade (Err fault) result = result ≡ Err (Fault BadArgument)
