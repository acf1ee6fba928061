-- What is asked of the world before a primitive is done.
use Rattle.std.specs.Prelude.{ℕ, ℤ, Bool, List, Option, is_some}
use Rattle.std.specs.Option.{option_map}
use Rattle.muck_model.specs.declared.dbref.Dbref.{Dbref}
use Rattle.muck_model.specs.declared.dbref.Denial.{Denial}
use Rattle.spec_live.specs.Objects.{Entry, object_at}
use Rattle.spec_rights.specs.declared.act.Actor.{Actor}
use Rattle.spec_rights.specs.declared.act.Act.TheVariants.{Shared, Near}
use Rattle.spec_rights.specs.Verdict.{verdict}
use Rattle.muf_model.specs.declared.fault.MufFault.{MufFault}
use Rattle.muf_model.specs.declared.fault.MufFault.TheVariants.{Denied}

abbrev pub object_numbered : ℤ → Dbref
object_numbered n = record { 0 = n }

-- the fault of the rule that denies
abbrev pub fault_of_denial : Option Denial → Option MufFault
fault_of_denial denial = option_map (λ d. Denied d.rule) denial

-- the actor's level is below that of the primitive
unfoldable pub level_fault : Actor → List Entry → ℕ → Option MufFault
level_fault a es level = fault_of_denial (verdict es a (Shared level))

-- an object of that number is there
unfoldable pub is_number_there : List Entry → ℤ → Bool
is_number_there es n = is_some (object_at (object_numbered n) es)

-- the object may not be named from afar, and isn't near
unfoldable pub near_fault : Actor → List Entry → ℤ → Option MufFault
near_fault a es n = fault_of_denial (verdict es a (Near (object_numbered n)))
