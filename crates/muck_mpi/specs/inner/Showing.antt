-- What is shown of a message.
use Rattle.std.specs.Prelude.{◌≡◌, ℕ, List, Result, Ok, Err}
use Rattle.muck_model.specs.declared.memory.NoMemory.{NoMemory}
use Rattle.mpi.specs.declared.fault.MpiFault.TheVariants.{NoMemory as WantsMemory}
use Rattle.spec_mpi.specs.Telling.{MpiAnswer}
use Rattle.spec_mpi.specs.Messages.{answer_shown}

-- it is shown, unless memory was wanted
abbrev pub IsShown : MpiAnswer → Result (List ℕ) NoMemory → Type 0
IsShown answer (Err e) = Unit {0}
IsShown (Err WantsMemory) (Ok line) = ⊥
IsShown answer (Ok line) = line ≡ answer_shown answer
