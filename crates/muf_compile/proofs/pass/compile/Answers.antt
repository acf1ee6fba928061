use Rattle.std.proofs.Common.{refl}
use Rattle.muf_compile.specs.Growth.{tree_of, empty_draft}
use Rattle.muf_compile.specs.inner.Compiled.{compiled_of}
use Rattle.muf_compile.proofs.Compiling.{starts, takes_at, refused_at, ends_at, few_words, few_units, code_written}
use Rattle.muf_compile.proofs.pass.compile.Goals as goal

pub loop-token-init : goal.loop-token-init
unfolding tree_of
loop-token-init c = (empty_draft, rw c.in_ok-compiler.ensures starts.0, starts.1, refl)

pub take-requires-clause-words : goal.take-requires-clause-words
take-requires-clause-words c = let i = c.loop-token.invariant in few_words (compiled_of c.loop-token.compiler) i.0 i.1 i.2

pub take-requires-clause-most : goal.take-requires-clause-most
take-requires-clause-most c = let i = c.loop-token.invariant in few_units (compiled_of c.loop-token.compiler) i.0 i.1 i.2

pub returns-in-Err-clause-code : goal.returns-in-Err-clause-code
returns-in-Err-clause-code c =
    let i = c.loop-token.invariant in
    refused_at c.as_slice-token-items.result.now c.args.tokens.now c.as_slice-token-items.ensures _ c.loop-token.last c.token-item.result c.loop-token-test.true c.token-item.is i.0 _ i.3 (compiled_of c.loop-token.compiler) (compiled_of c.take.new.self) c.in-Err.fault i.1 c.in-Err.ensures

pub loop-token-preserved : goal.loop-token-preserved
loop-token-preserved c =
    let i = c.loop-token.invariant in
    takes_at c.as_slice-token-items.result.now c.args.tokens.now c.as_slice-token-items.ensures _ c.loop-token.last c.token-item.result c.loop-token-test.true c.token-item.is i.0 _ i.3 (compiled_of c.loop-token.compiler) (compiled_of c.take.new.self) i.1 i.2 c.in-Ok.ensures

pub returns-clause-code : goal.returns-clause-code
returns-clause-code c =
    let i = c.loop-token.invariant in
    ends_at c.as_slice-token-items.result.now c.args.tokens.now c.as_slice-token-items.ensures _ c.loop-token.last (compiled_of c.loop-token.compiler) i.0 _ _ c.loop-token-test.false i.1 i.2 i.3 c.finish.ensures

pub returns-clause-written : goal.returns-clause-written
returns-clause-written c = code_written c.args.tokens.now _ (returns-clause-code c)
