-- Where a walk begins.
use Rattle.std.specs.Prelude.{◌≡◌, ℕ, List, Option, None, is_some, true, Result, Ok, Err}
use Rattle.muck_prop.specs.Store.{path_or_top as path_or_root}
use Rattle.muf_model.specs.declared.fault.MufFault.TheVariants.{BadArgument}
use Rattle.muf_frame.specs.declared.fault.PrimFault.{PrimFault}
use Rattle.muf_frame.specs.declared.fault.PrimFault.TheVariants.{Fault, NoMemory}
use Rattle.spec_prims.specs.PropRows.{listing_begins, directory_fault}
use Rattle.prim_prop.specs.declared.walking.Start.{Start}

-- the directory, and the child behind which it goes on
abbrev pub begun : Start → List (List ℕ) × Option (List (List ℕ))
begun s = (path_or_root s.directory, s.after)

-- it begins where the text says, or the text is refused; want of memory says nothing
abbrev pub Starts : List ℕ → Result Start PrimFault → Type 0
Starts t (Ok s) = (directory_fault t ≡ None) × (listing_begins t ≡ begun s)
Starts t (Err (Fault f)) = (is_some (directory_fault t) ≡ true) × (f ≡ BadArgument)
Starts t (Err NoMemory) = Unit {0}
