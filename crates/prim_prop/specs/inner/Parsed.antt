-- What a program gets of a formula.
use Rattle.std.specs.Prelude.{◌≡◌, [], ◌∷◌, Result, Ok, Err}
use Rattle.mpi.specs.declared.fault.MpiFault.TheVariants.{NoMemory as WantsMemory}
use Rattle.spec_mpi.specs.Telling.{MpiAnswer}
use Rattle.muf_model.specs.Datum.{text}
use Rattle.muf_frame.specs.declared.fault.PrimFault.{PrimFault}
use Rattle.muf_frame.specs.declared.fault.PrimFault.TheVariants.{Fault, NoMemory}
use Rattle.spec_prims.specs.Formulas.{fault_in_program}
use Rattle.prim_common.specs.inner.Applied.{items_of}
use Rattle.prim_common.specs.declared.made.Made.{Made}

-- the value is made, or the fault is the one for that of the formula; want of memory says nothing
abbrev pub IsAnswered : MpiAnswer → Result Made PrimFault → Type 0
IsAnswered answer (Err NoMemory) = Unit {0}
IsAnswered (Ok value) (Ok made) = items_of made ≡ text value ∷ []
IsAnswered (Ok value) (Err (Fault f)) = ⊥
IsAnswered (Err WantsMemory) result = ⊥
IsAnswered (Err fault) (Ok made) = ⊥
IsAnswered (Err fault) (Err (Fault f)) = f ≡ fault_in_program fault
