use Rattle.std.proofs.Common.{◌≡◌, ◌-◌, List, ◌∷◌, length}
use Rattle.muf_model.specs.declared.code.Code.{Code}
use Rattle.muf_model.specs.Source.{Source}
use Rattle.muf_model.specs.Unit.{unit}
use Rattle.muf_model.specs.inner.Fits.{FitsState}
use Rattle.muf_frame.specs.inner.Shown.{flat}
use Rattle.muf_run.proofs.run.settle.Given as goal

abbrev pub invariant-loop-placed : goal.invariant-loop-placed
invariant-loop-placed l = (codes : List Code) (s : Source) → FitsState (l.code ∷ codes) (flat l.fn.frame) s → (t : Source) × FitsState (l.code ∷ codes) (flat l.frame) t × (unit s ≡ unit t)

abbrev pub decreases-loop-placed : goal.decreases-loop-placed
decreases-loop-placed l = length l.code.placed - l.frame.place
