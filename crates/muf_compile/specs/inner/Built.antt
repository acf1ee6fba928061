-- What contracts see of the code so far.
use Rattle.std.specs.Prelude.{ℕ, List}
use Rattle.muf_model.specs.declared.code.Placed.{Placed}
use Rattle.muf_model.specs.declared.code.CodeWord.{CodeWord}
use Rattle.muf_compile.specs.declared.hole.Pending.{Pending}

-- its instructions and its words, the name of the present word and the place where it begins, and what is open, the
-- innermost first
pub record Built : Type 0 where
  pub code : List Placed
  pub words : List CodeWord
  pub title : List ℕ
  pub start : ℕ
  pub pending : List Pending
