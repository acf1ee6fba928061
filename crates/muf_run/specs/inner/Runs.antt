-- How a run of units ends.
use Rattle.std.specs.Prelude.{◌≡◌, ℕ, zero, suc, List, ◌∷◌, Bool, true, false, drop, slice_get, Some}
use Rattle.muf_model.specs.declared.code.Instr.TheVariants.{Begin}
use Rattle.muf_model.specs.declared.code.Placed.{Placed}
use Rattle.muf_model.specs.declared.code.Code.{Code}
use Rattle.muf_model.specs.declared.fault.MufFault.TheVariants.{CallsFull, NotCompiled}
use Rattle.muf_model.specs.Source.{Source}
use Rattle.muf_model.specs.Unit.{Outcome, goes, ended, faulted, asks, unit}
pub use Rattle.muf_model.specs.Chains.{count, taken}
use Rattle.muf_model.specs.inner.Flat.{Flat, decode}
use Rattle.muf_model.specs.inner.Fits.{FitsState, Fits}
use Rattle.muf_run.specs.inner.Alike.{EndsAlike}
use Rattle.muf_run.specs.inner.Machine as machine
use Rattle.muf_run.specs.declared.ran.Ran.{Ran}
use Rattle.muf_run.specs.declared.ran.Ran.TheVariants as ran
use Rattle.muf_run.specs.declared.run.Local.{Local}
use Rattle.muf_run.specs.declared.run.Local.TheVariants.{Spent, Shared, Returned, Ended, Faulted}

-- The frame went past each BEGIN that came next, and stands for a state that takes the same unit; or one of them has
-- no room, and that unit is a fault.
abbrev pub Passed : Bool → Code → List Code → Flat → Source → Type 0
Passed true code codes f s =
    (t : Source) × FitsState (code ∷ codes) f t × (unit s ≡ unit t) × ((q : Placed) (to : ℕ) → slice_get code.placed f.place ≡ Some q → q.instr ≡ Begin to → ⊥)
Passed false code codes f s = EndsAlike (code ∷ codes) (machine.fault CallsFull f) (unit s)

-- The answer of a run and the frame that it left, by how the units of the source end. The codes fit the frame again,
-- but those of the programs that were left, and the state is read off it.
abbrev pub RunsAlike : List Code → Local → Flat → Outcome → Type 0
RunsAlike codes Spent f (goes zero s) = Fits codes f × (decode codes f ≡ s)
RunsAlike codes (Returned j) f (goes (suc k) s) = (j ≡ suc k) × Fits (drop (suc k) codes) f × (decode (drop (suc k) codes) f ≡ s)
RunsAlike codes Ended f ended = Unit {0}
RunsAlike codes (Faulted g) f (faulted h) = g ≡ h
RunsAlike codes (Shared p) f (asks q s) = (p ≡ q) × Fits codes f × (decode codes f ≡ s)
RunsAlike codes _ f _ = ⊥

-- What the answer of the last unit makes of a run, and whether that was a unit. A frame that fits its codes never gets
-- stuck; any other one ends by a fault.
abbrev pub local_of : Ran → Local
local_of (ran.Going k) = Returned k
local_of ran.Ended = Ended
local_of (ran.Faulted f) = Faulted f
local_of (ran.Shared p) = Shared p
local_of ran.Stuck = Faulted NotCompiled

abbrev pub last_of : Ran → ℕ
last_of (ran.Going k) = 1
last_of ran.Ended = 1
last_of (ran.Faulted f) = 1
last_of (ran.Shared p) = 0
last_of ran.Stuck = 1
