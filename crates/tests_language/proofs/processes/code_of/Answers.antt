use Rattle.std.proofs.Common.{subst, sym}
use Rattle.muck_laws.proofs.Results.{if_ok_mapped}
use Rattle.muf_model.specs.inner.Decode.{tree_of}
use Rattle.muf_model.specs.inner.Stands.{TreeStands}
use Rattle.muf_running.proofs.Compiled.{compiled_stands}
use Rattle.tests_language.proofs.processes.code_of.Goals as goal

pub returns-in-Ok-compile-clause-stands : goal.returns-in-Ok-compile-clause-stands
returns-in-Ok-compile-clause-stands c =
    if_ok_mapped _ _ c.new-in-Ok-compile.result (λ s e. subst (λ code. TreeStands code (tree_of code)) (sym e) (compiled_stands _ c.in-Ok-compile.code c.in-Ok-compile.ensures.code)) c.new-in-Ok-compile.ensures
