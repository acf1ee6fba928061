-- The pass over the words of a source, as it goes.
use Rattle.std.specs.Prelude.{ℕ, List, [], ◌∷◌, length, Result, Ok}
use Rattle.muf_model.specs.declared.code.Placed.{Placed}
use Rattle.muf_model.specs.declared.code.CodeWord.{CodeWord}
use Rattle.muf_model.specs.declared.code.Code.{Code}
use Rattle.muf_token.specs.declared.token.Token.{Token}
use Rattle.muf_compile.specs.declared.pass.Compiler.{Compiler}
use Rattle.muf_compile.specs.declared.names.Mode.{Mode}
use Rattle.muf_compile.specs.declared.names.Mode.TheVariants as mode
use Rattle.muf_compile.specs.declared.fault.CompileKind.TheVariants.{NoWord, BadHeader}
use Rattle.muf_compile.specs.declared.fault.Refusal.{Refusal}
use Rattle.muf_compile.specs.Acts.{cost_of}
use Rattle.muf_compile.specs.Faults.{refuse, and_then}
use Rattle.muf_compile.specs.Reading.{Known, word_read, nothing_known}
use Rattle.muf_compile.specs.inner.Knowing.{known_of}
use Rattle.muf_compile.specs.Growth.{units_added}
use Rattle.muf_compile.specs.inner.Built.{Built}
use Rattle.muf_compile.specs.inner.Build.{build, misfit}

-- what is known, the code so far, and how many instructions it has that take a unit
pub record Compiled : Type 0 where
  pub known : Known
  pub built : Built
  pub units : ℕ

abbrev pub compiled_of : Compiler → Compiled
compiled_of c = record { known = known_of c.known; built = c.builder; units = c.units }

-- a word more
abbrev pub compiled_step : Token → Compiled → Result Compiled Refusal
compiled_step t c =
    and_then (word_read (length c.built.words) t c.known) (λ r.
    and_then (build r.1.line r.1.act c.built) (λ b.
    and_then (units_added r.1.line (cost_of r.1.act) c.units) (λ n.
    Ok (record { known = r.0; built = b; units = n }))))

-- the code of a whole program, whose last word stands at this line
abbrev pub whole_code : ℕ → ℕ → List Placed → List CodeWord → Result Code Refusal
whole_code last variables code [] = refuse last NoWord
whole_code last variables code (w ∷ ws) = Ok (record { placed = code; words = w ∷ ws; variables = variables })

abbrev pub compiled_end : Mode → ℕ → Compiled → Result Code Refusal
compiled_end mode.Outside last c = whole_code last c.known.variables c.built.code c.built.words
compiled_end mode.Inside last c = refuse last (misfit NoWord c.built.pending)
compiled_end _ last c = refuse last BadHeader

abbrev pub nothing_compiled : Compiled
nothing_compiled = record { known = nothing_known; built = record { code = []; words = []; title = []; start = 0; pending = [] }; units = 0 }
