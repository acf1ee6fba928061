-- What the code of a finding answers.
use Rattle.std.specs.Prelude.{◌≡◌, List, slice_get, Option, Some, None, Result, Ok, Err}
use Rattle.std.specs.Option.{option_and_then}
use Rattle.muck_model.specs.declared.lock.Lock.{Lock}
use Rattle.muf_model.specs.declared.fault.MufFault.{MufFault}
use Rattle.muf_model.specs.declared.fault.MufFault.TheVariants.{NotCompiled}
use Rattle.muf_model.specs.declared.prims.Primitive.{Primitive}
use Rattle.muf_model.specs.declared.value.Value.{Value}
use Rattle.muf_model.specs.Datum.{Datum, lock}
use Rattle.muf_model.specs.inner.View.{view}
use Rattle.muf_frame.specs.declared.fault.PrimFault.{PrimFault}
use Rattle.muf_frame.specs.declared.fault.PrimFault.TheVariants.{Fault, NoMemory}
use Rattle.spec_live.specs.Objects.{Entry}
use Rattle.spec_rights.specs.declared.act.Actor.{Actor}
use Rattle.spec_prims.specs.ObjectRows.{Finding, finding_of}

-- the item, or the fault; or memory is wanted
abbrev pub Finds : Result Datum MufFault → Result Value PrimFault → Type 0
Finds found (Err NoMemory) = Unit {0}
Finds (Ok item) (Ok value) = view value ≡ item
Finds (Ok item) (Err (Fault f)) = ⊥
Finds (Err e) (Ok value) = ⊥
Finds (Err e) (Err (Fault f)) = f ≡ e

-- what a primitive finds in the items that it takes; one that finds nothing isn't there
abbrev pub found_with : Option Finding → Actor → List Entry → List Datum → Result Datum MufFault
found_with None a es items = Err NotCompiled
found_with (Some find) a es items = find a es items

abbrev pub found_in : Primitive → Actor → List Entry → List Datum → Result Datum MufFault
found_in p a es items = found_with (finding_of p) a es items

-- the lock that an item is
abbrev pub as_lock : Datum → Option Lock
as_lock (lock l) = Some l
as_lock item = None

abbrev pub lock_at_top : List Datum → Option Lock
lock_at_top stack = option_and_then as_lock (slice_get stack 0)
