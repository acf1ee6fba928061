-- The trees that are read off the codes of a library.
use Rattle.std.specs.Prelude.{List, Option, Some, None, map}
use Rattle.std.specs.Option.{option_map}
use Rattle.muf_model.specs.declared.code.Code.{Code}
use Rattle.muf_model.specs.Tree.{Tree}
use Rattle.muf_model.specs.inner.Stands.{TreeStands}
use Rattle.muf_model.specs.inner.Decode.{tree_of}

abbrev pub trees_of : List (Option Code) → List (Option Tree)
trees_of forms = map (option_map tree_of) forms

-- where there is a code, it stands for the tree that is read off it
abbrev pub FormStands : Option Code → Type 0
FormStands (Some code) = TreeStands code (tree_of code)
FormStands None = Unit {0}
