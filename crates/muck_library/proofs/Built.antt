-- From the answers of the reader and the compiler to that of `build`.
use Rattle.std.proofs.Common.{◌≡◌, List, Result, Ok, Err, sym, ◌∙◌, ap, subst}
use Rattle.muck_model.specs.declared.dbref.Dbref.{Dbref}
use Rattle.spec_live.specs.Objects.{Entry}
use Rattle.muf_model.specs.declared.code.Code.{Code}
use Rattle.muf_model.specs.Tree.{Tree}
use Rattle.muf_model.specs.inner.Stands.{TreeStands}
use Rattle.muf_model.specs.inner.Decode as decode
use Rattle.muf_model.proofs.Unique.{tree_read}
use Rattle.muf_token.specs.declared.token.Token.{Token}
use Rattle.muf_token.specs.declared.fault.TokenFault.{TokenFault}
use Rattle.muf_token.specs.declared.fault.TokenFault.TheVariants as read
use Rattle.muf_token.specs.Source.{words}
use Rattle.muf_token.specs.inner.Spots.{IsAnswer}
use Rattle.muf_compile.specs.declared.fault.Refusal.{Refusal as CompileRefusal}
use Rattle.muf_compile.specs.declared.fault.CompileFault.{CompileFault}
use Rattle.muf_compile.specs.declared.fault.CompileFault.TheVariants as compiled
use Rattle.muf_compile.specs.inner.Fits.{IsCode}
use Rattle.muf_compile.specs.Growth.{tree_of}
use Rattle.muck_library.specs.Flaws.{fault_of_reading, fault_of_compiling}
use Rattle.muck_library.specs.Programs.{lent_in, source_in, built_tree, compiled_tree, tree_of_words, IsBuilt}

-- ---- refusals

pub unread : (es : List Entry) (d : Dbref) (fault : TokenFault) → IsAnswer (λ (list : List Token). list) (words (lent_in es) (source_in es d)) (Err fault) → IsBuilt (built_tree es d) (Err (fault_of_reading fault))
unfolding built_tree
unread es d (read.Refused r) h = ap tree_of_words h
unread es d read.NoMemory h = tt

pub uncompiled : (es : List Entry) (d : Dbref) (tokens : List Token) (fault : CompileFault) → words (lent_in es) (source_in es d) ≡ Ok tokens → IsCode (tree_of tokens) (Err fault) → IsBuilt (built_tree es d) (Err (fault_of_compiling fault))
unfolding built_tree
uncompiled es d tokens (compiled.Refused r) told h = ap tree_of_words told ∙ ap compiled_tree (at (tree_of tokens) h)
  where
    at : (t : Result Tree CompileRefusal) → IsCode t (Err (compiled.Refused r)) → t ≡ Err r
    at (Ok tree) h = h
    at (Err s) h = h
uncompiled es d tokens compiled.NoMemory told h = tt

-- ---- code

-- code that was compiled stands for the tree that is read off it
stands : (t : Result Tree CompileRefusal) (code : Code) → IsCode t (Ok code) → (t ≡ Ok (decode.tree_of code)) × TreeStands code (decode.tree_of code)
stands (Ok tree) code h = (ap Ok (sym (tree_read code tree h)), subst (TreeStands code) (sym (tree_read code tree h)) h)
stands (Err r) code h = absurd h

pub built : (es : List Entry) (d : Dbref) (tokens : List Token) (code : Code) → words (lent_in es) (source_in es d) ≡ Ok tokens → IsCode (tree_of tokens) (Ok code) → IsBuilt (built_tree es d) (Ok code)
unfolding built_tree
built es d tokens code told h =
    let s = stands (tree_of tokens) code h in
    (ap tree_of_words told ∙ ap compiled_tree s.0, s.1)
