-- How the next units of a frame end.
use Rattle.std.specs.Prelude.{◌≡◌, ◌<◌, ◌≤◌, ℕ, zero, suc, List, ◌∷◌, IfOk}
use Rattle.muf_model.specs.declared.code.Code.{Code}
use Rattle.muf_model.specs.Source.{Source}
use Rattle.muf_model.specs.Unit.{unit}
use Rattle.muf_model.specs.inner.Flat.{Flat}
use Rattle.muf_model.specs.inner.Fits.{FitsState}
use Rattle.muf_run.specs.declared.ran.Ran.TheVariants.{Going}
use Rattle.muf_run.specs.declared.ran.Step.{Step}
use Rattle.muf_run.specs.declared.ran.Step.TheVariants.{Went, Over}
use Rattle.muf_run.specs.inner.Alike.{EndsAlike}
use Rattle.muf_run.specs.inner.Machine.{Next, going, next_of}

-- the unit of each state for which the frame stands ends alike
abbrev pub UnitEnds : Code → Flat → Next → Type 0
UnitEnds code f n = (codes : List Code) (s : Source) → FitsState (code ∷ codes) f s → EndsAlike (code ∷ codes) n (unit s)

-- so many units that go on in the same program lead from one frame to another
abbrev pub Leads : ℕ → Code → Flat → Flat → Type 0
Leads zero code f g = g ≡ f
Leads (suc n) code f g = (m : Flat) × UnitEnds code f (going 0 m) × Leads n code m g

-- a step took at least one unit, and at most so many
abbrev pub StepEnds : ℕ → Code → Flat → Step → Flat → Type 0
StepEnds most code f (Went n) g = (0 < n) × (n ≤ most) × Leads n code f g
StepEnds most code f (Over r) g = IfOk r (λ ran. (ran ≡ Going 0 → ⊥) × UnitEnds code f (next_of ran g))
