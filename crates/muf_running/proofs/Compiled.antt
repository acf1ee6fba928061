-- What the compiler makes stands for the tree that is read off it.
use Rattle.std.proofs.Common.{subst, sym}
use Rattle.std.specs.Prelude.{Result, Ok, Err}
use Rattle.muf_model.specs.declared.code.Code.{Code}
use Rattle.muf_model.specs.inner.Decode.{tree_of}
use Rattle.muf_model.specs.inner.Stands.{TreeStands}
use Rattle.muf_model.specs.Tree.{Tree}
use Rattle.muf_model.proofs.Unique.{tree_read}
use Rattle.muf_compile.specs.declared.fault.Refusal.{Refusal}
use Rattle.muf_compile.specs.inner.Fits.{IsCode}

pub compiled_stands : (tree : Result Tree Refusal) (code : Code) → IsCode tree (Ok code) → TreeStands code (tree_of code)
compiled_stands (Ok tree) code h = subst (TreeStands code) (sym (tree_read code tree h)) h
compiled_stands (Err refusal) code h = absurd h
