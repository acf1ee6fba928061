-- Objects that lend definitions.
use Rattle.std.specs.Prelude.{if◌then◌else◌, List, [], ◌∷◌, Option, Some, None}
use Rattle.std.specs.Ordering.{int_eq}
use Rattle.muck_model.specs.declared.dbref.Dbref.{Dbref}
use Rattle.muf_token.specs.declared.includes.Definition.{Definition}
use Rattle.muf_token.specs.declared.memory.Lender.{Lender}

-- the definitions that an object lends, by its first entry
abbrev pub lent_by : List Lender → Dbref → Option (List Definition)
lent_by [] d = None
lent_by (lender ∷ lenders) d = if int_eq lender.object.0 d.0 then Some lender.defs else lent_by lenders d
