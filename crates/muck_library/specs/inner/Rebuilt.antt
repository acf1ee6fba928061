-- What building a program anew makes of the library.
use Rattle.std.specs.Prelude.{◌≡◌, Option, Some, None, Result, Ok, Err}
use Rattle.muck_model.specs.declared.dbref.Dbref.{Dbref}
use Rattle.muck_model.specs.declared.memory.NoMemory.{NoMemory}
use Rattle.muf_model.specs.Tree.{Tree}
use Rattle.muck_library.specs.declared.flaw.Flaw.{Flaw}
use Rattle.muck_library.specs.Library.{Library, form_kept, form_dropped}

-- the tree of the program is kept; or its source has a flaw, and the program has no form
abbrev pub IsRebuilt : Result Tree Flaw → Dbref → Library → Library → Result (Option Flaw) NoMemory → Type 0
IsRebuilt built d old new (Ok None) = (tree : Tree) × (built ≡ Ok tree) × (new ≡ form_kept d tree old)
IsRebuilt built d old new (Ok (Some flaw)) = (built ≡ Err flaw) × (new ≡ form_dropped d old)
IsRebuilt built d old new (Err e) = new ≡ old
