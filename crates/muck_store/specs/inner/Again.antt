-- What is loaded of what was stored of a world.
use Rattle.std.specs.Prelude.{◌≡◌, List, map, None}
use Rattle.spec_live.specs.declared.saving.Saving.TheVariants.{Due}
use Rattle.spec_live.specs.Objects.{Entry}
use Rattle.spec_live.specs.Stood.{standing}
use Rattle.spec_live.specs.Consistent.{IsConsistent}
use Rattle.muck_store.specs.Forms.{persist, loaded}

-- an object as a start finds it: there is nothing to tell of it, it is due, and it hasn't moved
abbrev pub unmarked : Entry → Entry
unmarked e = record e { mark = None; saving = Due; stood = standing e.object }

-- it is that world: each object has all its fields and both its lists
abbrev pub LoadsAgain : Type 0
LoadsAgain = (es : List Entry) → IsConsistent es → loaded (persist es) ≡ map (λ e. unmarked e) es
