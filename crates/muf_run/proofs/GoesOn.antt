-- A unit that goes on.
use Rattle.std.proofs.Common.{◌≡◌, ℕ, ◌+◌, ◌≤◌, arith, List, ◌∷◌, Some, ap, subst}
use Rattle.std.specs.Prelude.{slice_get, Result, Ok, Err, IfOk}
use Rattle.muf_model.specs.declared.code.Instr.TheVariants.{Begin}
use Rattle.muf_model.specs.declared.code.Placed.{Placed}
use Rattle.muf_model.specs.declared.code.Code.{Code}
use Rattle.muf_model.specs.Source.{Source}
use Rattle.muf_model.specs.Unit.{unit}
use Rattle.muf_model.specs.inner.Flat.{Flat}
use Rattle.muf_model.specs.inner.Fits.{FitsState}
use Rattle.muf_run.specs.inner.Alike.{EndsAlike}
use Rattle.muf_run.specs.declared.ran.Step.{Step}
use Rattle.muf_run.specs.declared.ran.Step.TheVariants.{Went, Over}
use Rattle.muf_run.specs.inner.Ends.{UnitEnds, StepEnds}
use Rattle.muf_run.specs.inner.Machine as machine
use Rattle.muf_run.specs.declared.ran.Ran.{Ran}
use Rattle.muf_run.specs.declared.ran.Ran.TheVariants.{Going}
use Rattle.muf_run.specs.inner.Machine.{Next, going, next_of}
use Rattle.muf_run.proofs.Lockstep.{instr_fits}

-- an instruction that goes on is a unit of the source
pub quick_fits : {code : Code} {codes : List Code} {f g : Flat} {s : Source} → FitsState (code ∷ codes) f s → (q : Placed) → slice_get code.placed f.place ≡ Some q → ((to : ℕ) → q.instr ≡ Begin to → ⊥) → machine.instr code q.instr (f.place + 1) f ≡ going 0 g → EndsAlike (code ∷ codes) (going 0 g) (unit s)
quick_fits {code} {codes} {f} {g} {s} h q e nb k = subst (λ n. EndsAlike (code ∷ codes) n (unit s)) k (instr_fits h q e nb)

pub unit_goes_on : {E : Type 0} → (code : Code) (f g : Flat) (r : Result Ran E) → r ≡ Ok (Going 0) → IfOk r (λ ran. UnitEnds code f (next_of ran g)) → UnitEnds code f (going 0 g)
unit_goes_on code f g r e h = subst (λ r. IfOk r (λ ran. UnitEnds code f (next_of ran g))) e h

pub unit_over : {E : Type 0} → (code : Code) (f g : Flat) (r : Result Ran E) → (r ≡ Ok (Going 0) → ⊥) → IfOk r (λ ran. UnitEnds code f (next_of ran g)) → IfOk r (λ ran. (ran ≡ Going 0 → ⊥) × UnitEnds code f (next_of ran g))
unit_over code f g (Ok ran) n h = (λ e. n (ap Ok e), h)
unit_over code f g (Err x) n h = h

-- a step that may take more
pub step_more : (n m : ℕ) (code : Code) (f g : Flat) (step : Step) → n ≤ m → StepEnds n code f step g → StepEnds m code f step g
step_more n m code f g (Went k) l h = (h.0, omega (arith, l, h.1), h.2)
step_more n m code f g (Over r) l h = h
