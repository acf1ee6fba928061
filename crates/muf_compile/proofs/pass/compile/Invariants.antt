use Rattle.std.proofs.Common.{◌≡◌, drop}
use Rattle.muf_compile.specs.Growth.{Draft, tree_of, tree_from}
use Rattle.muf_compile.specs.inner.Compiled.{compiled_of}
use Rattle.muf_compile.proofs.Compiling.{CompiledFits, WasSpelt}
use Rattle.muf_compile.proofs.pass.compile.Given as goal

-- what is compiled stands for a draft that some words have led to, whose tree with the rest of the words is the whole one
abbrev pub invariant-loop-token : goal.invariant-loop-token
invariant-loop-token l =
    (d : Draft) × CompiledFits (compiled_of l.compiler) d × WasSpelt d × (tree_of l.tokens ≡ tree_from l.last (drop l.token-index l.tokens) d)
