-- Refusals, and steps that may be refused.
use Rattle.std.specs.Prelude.{◌≡◌, ℕ, Result, Ok, Err}
use Rattle.muf_compile.specs.declared.fault.CompileKind.{CompileKind}
use Rattle.muf_compile.specs.declared.fault.CompileKind.TheVariants.{UnknownWord, UnclosedIf, StrayElse, UnclosedLoop, StrayBreak, UnclosedTry, NoWord, DoubleName, BadHeader, TooLong}
use Rattle.muf_compile.specs.declared.fault.Refusal.{Refusal}
use Rattle.muf_compile.specs.declared.fault.CompileFault.{CompileFault}
use Rattle.muf_compile.specs.declared.fault.CompileFault.TheVariants.{Refused, NoMemory}

-- the number by which a user knows it
abbrev pub compile_fault_number : CompileKind → ℕ
compile_fault_number UnknownWord = 30
compile_fault_number UnclosedIf = 31
compile_fault_number StrayElse = 32
compile_fault_number UnclosedLoop = 33
compile_fault_number StrayBreak = 34
compile_fault_number UnclosedTry = 35
compile_fault_number NoWord = 36
compile_fault_number DoubleName = 37
compile_fault_number BadHeader = 38
compile_fault_number TooLong = 39

-- refused for this, at this line
abbrev pub refuse : {A : Type 0} → ℕ → CompileKind → Result A Refusal
refuse line kind = Err (record { line = line; kind = kind })

-- one step, and then another, where the first isn't refused
abbrev pub and_then : {A B : Type 0} → Result A Refusal → (A → Result B Refusal) → Result B Refusal
and_then (Ok a) next = next a
and_then (Err refusal) next = Err refusal

-- the answer of a call that changes something, and what it leaves; want of memory says nothing
abbrev pub Leads : {A B : Type 0} → Result A Refusal → Result B CompileFault → A → Type 0
Leads step (Ok done) now = step ≡ Ok now
Leads step (Err (Refused refusal)) now = step ≡ Err refusal
Leads step (Err NoMemory) now = Unit {0}

-- the answer of a call; want of memory says nothing
abbrev pub Answers : {A : Type 0} → Result A Refusal → Result A CompileFault → Type 0
Answers step (Ok answer) = step ≡ Ok answer
Answers step (Err (Refused refusal)) = step ≡ Err refusal
Answers step (Err NoMemory) = Unit {0}
