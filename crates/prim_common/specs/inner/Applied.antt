-- What a row makes of a frame and of the world that a guard lends.
use Rattle.std.specs.Prelude.{◌≡◌, ◌<◌, ◌≤◌, ℕ, List, [], ◌∷◌, ◌++◌, length, drop, map, Option, Some, None, Result, Ok, Err}
use Rattle.spec_live.specs.Lives.{Live}
use Rattle.spec_rights.specs.declared.act.Actor.{Actor}
use Rattle.muf_model.specs.declared.fault.MufFault.{MufFault}
use Rattle.muf_model.specs.declared.fault.MufFault.TheVariants.{NotCompiled, StackFull}
use Rattle.muf_model.specs.Answer.{stack_most}
use Rattle.muf_model.specs.Datum.{Datum}
use Rattle.muf_model.specs.inner.View.{view}
use Rattle.muf_frame.specs.declared.fault.PrimFault.{PrimFault}
use Rattle.muf_frame.specs.declared.fault.PrimFault.TheVariants.{Fault, NoMemory}
use Rattle.muf_frame.specs.inner.Shown.{Shown, flat}
use Rattle.muck_perm.specs.declared.guard.Guard.{Guard}
use Rattle.muck_perm.specs.inner.Guards.{Same, Kept, world_of}
use Rattle.spec_prims.specs.Row.{WorldAnswer, gives, refuses, breaks, WorldDoing}
use Rattle.prim_common.specs.declared.made.Made.{Made}
use Rattle.prim_common.specs.declared.made.Made.TheVariants.{Nothing, One, Many}

-- nothing of the world has changed, nor of the guard
abbrev pub Untouched : Guard → Guard → Type 0
Untouched old new = (world_of new ≡ world_of old) × Kept old new

-- The frame has the stack of the row and the guard its world; or the row refuses, and both are as they were; or it breaks off,
-- the frame is as it was and the guard has its world. After want of memory nothing is said of them, but that the guard holds the
-- same places.
abbrev pub Applied : WorldAnswer → Shown → Shown → Guard → Guard → Result (Unit {0}) PrimFault → Type 0
Applied (gives stack w) f g old new (Ok x) = (flat g ≡ record (flat f) { stack = stack }) × (world_of new ≡ w) × Kept old new
Applied (gives stack w) f g old new (Err (Fault h)) = ⊥
Applied (refuses e) f g old new (Ok x) = ⊥
Applied (refuses e) f g old new (Err (Fault h)) = (h ≡ e) × (g ≡ f) × Untouched old new
Applied (breaks e w) f g old new (Ok x) = ⊥
Applied (breaks e w) f g old new (Err (Fault h)) = (h ≡ e) × (g ≡ f) × (world_of new ≡ w) × Kept old new
Applied row f g old new (Err NoMemory) = Same old new

-- the items that are made, the top first
abbrev pub items_of : Made → List Datum
items_of Nothing = []
items_of (One item) = view item ∷ []
items_of (Many items) = map view items.items

-- the items of the row are made, and the guard has its world; or the row refuses, and nothing has changed; or it breaks off, and
-- the guard has its world
abbrev pub Makes : WorldAnswer → Guard → Guard → Result Made PrimFault → Type 0
Makes (gives items w) old new (Ok made) = (items_of made ≡ items) × (world_of new ≡ w) × Kept old new
Makes (gives items w) old new (Err (Fault h)) = ⊥
Makes (refuses e) old new (Ok made) = ⊥
Makes (refuses e) old new (Err (Fault h)) = (h ≡ e) × (new ≡ old)
Makes (breaks e w) old new (Ok made) = ⊥
Makes (breaks e w) old new (Err (Fault h)) = (h ≡ e) × (world_of new ≡ w) × Kept old new
Makes row old new (Err NoMemory) = Same old new

-- these items stand in place of so many at the top, where there is room
abbrev pub Given : ℕ → List Datum → Shown → Shown → Result (Unit {0}) MufFault → Type 0
Given n items f g (Ok x) = (length (items ++ drop n (flat f).stack) ≤ stack_most) × (flat g ≡ record (flat f) { stack = items ++ drop n (flat f).stack })
Given n items f g (Err e) = (n < length items) × (stack_most < length (items ++ drop n (flat f).stack)) × (e ≡ StackFull) × (g ≡ f)

-- what a primitive says of its arguments, and what it does with them; one without a row isn't there yet
abbrev pub argued_of : Option WorldDoing → Actor → List Datum → Live → Option MufFault
argued_of None a items w = None
argued_of (Some doing) a items w = doing.argued a items w

abbrev pub does_of : Option WorldDoing → Actor → List Datum → Live → WorldAnswer
does_of None a items w = refuses NotCompiled
does_of (Some doing) a items w = doing.does a items w

-- This stands where a primitive was used and where it was refused. After want of memory nothing is said.
abbrev pub OnAnswer : {X : Type 0} → Result X PrimFault → Type 0 → Type 0
OnAnswer (Ok x) stands = stands
OnAnswer (Err (Fault f)) stands = stands
OnAnswer (Err NoMemory) stands = Unit {0}
