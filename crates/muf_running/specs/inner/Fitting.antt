-- What a running program is seen as.
use Rattle.std.specs.Prelude.{◌≡◌, Bool, List, map, ℤ}
use Rattle.std.specs.List.{list_any}
use Rattle.std.specs.Ordering.{int_eq}
use Rattle.muck_model.specs.declared.dbref.Dbref.{Dbref}
use Rattle.muf_model.specs.declared.code.Code.{Code}
use Rattle.muf_model.specs.declared.code.Word.TheVariants.{Primitive}
use Rattle.muf_model.specs.inner.Decode.{tree_of}
use Rattle.muf_model.specs.Tree.{Block, word}
use Rattle.muf_model.specs.Source.{Program, Source}
use Rattle.muf_model.specs.Chains.{programs_of}
use Rattle.muf_model.specs.inner.Flat.{Flat, decode}
use Rattle.muf_model.specs.inner.Fits.{Fits}
use Rattle.muf_running.specs.declared.entered.Entered.{Entered}

-- the codes of the programs on a call stack
abbrev pub codes_of : List Entered → List Code
codes_of es = map (λ e. e.code) es

-- and their numbers
abbrev pub numbers_of : List Entered → List ℤ
numbers_of es = map (λ e. e.program.0) es

-- a program with the tree that its code stands for
abbrev pub program_with : Dbref → Code → Program
program_with d code = record { number = d.0; tree = tree_of code }

-- the numbers of the programs that a process is in, the running one first
abbrev pub numbers_in : Source → List ℤ
numbers_in s = map (λ p. p.number) (programs_of s)

-- whether a number is among those
abbrev pub number_among : ℤ → List ℤ → Bool
number_among number numbers = list_any (λ n. int_eq n number) numbers

-- the programs on the call stack, the running one first, are those of the source state that is read off the frame
abbrev pub ProgramsFit : List Entered → Flat → Type 0
ProgramsFit es f = Fits (codes_of es) f × (numbers_of es ≡ numbers_in (decode (codes_of es) f))

-- a primitive comes next
abbrev pub IsAtPrimitive : Block → Type 0
IsAtPrimitive (word line (Primitive p) next) = Unit {0}
IsAtPrimitive _ = ⊥
