-- The reasons of the reader and of the compiler, as the number and the line that a user is told.
use Rattle.muf_token.specs.declared.fault.Refusal.{Refusal as ReadRefusal}
use Rattle.muf_token.specs.declared.fault.TokenFault.{TokenFault}
use Rattle.muf_token.specs.declared.fault.TokenFault.TheVariants as read
use Rattle.muf_token.specs.Faults.{token_fault_number as number_of_read}
use Rattle.muf_compile.specs.declared.fault.Refusal.{Refusal as CompileRefusal}
use Rattle.muf_compile.specs.declared.fault.CompileFault.{CompileFault}
use Rattle.muf_compile.specs.declared.fault.CompileFault.TheVariants as compiled
use Rattle.muf_compile.specs.Faults.{compile_fault_number as number_of_compiled}
use Rattle.muck_library.specs.declared.flaw.Flaw.{Flaw}
use Rattle.muck_library.specs.declared.flaw.BuildFault.{BuildFault}
use Rattle.muck_library.specs.declared.flaw.BuildFault.TheVariants.{Refused, NoMemory}

-- why the words of a source can't be read
abbrev pub flaw_of_reading : ReadRefusal → Flaw
flaw_of_reading r = record { number = number_of_read r.kind; line = r.line }

-- why words can't be compiled
abbrev pub flaw_of_compiling : CompileRefusal → Flaw
flaw_of_compiling r = record { number = number_of_compiled r.kind; line = r.line }

abbrev pub fault_of_reading : TokenFault → BuildFault
fault_of_reading (read.Refused r) = Refused (flaw_of_reading r)
fault_of_reading read.NoMemory = NoMemory

abbrev pub fault_of_compiling : CompileFault → BuildFault
fault_of_compiling (compiled.Refused r) = Refused (flaw_of_compiling r)
fault_of_compiling compiled.NoMemory = NoMemory
