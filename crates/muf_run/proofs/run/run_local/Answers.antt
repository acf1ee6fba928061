use Rattle.std.proofs.Common.{◌≡◌, ◌<◌, ◌-◌, ◌∷◌, sym, subst, arith}
use Rattle.muck_laws.proofs.Results.{over_by}
use Rattle.muf_model.specs.Unit.{units}
use Rattle.muf_model.specs.inner.Flat.{decode}
use Rattle.muf_frame.specs.inner.Shown.{flat}
use Rattle.muf_run.specs.declared.ran.Ran.TheVariants.{Going}
use Rattle.muf_run.specs.declared.run.Local.TheVariants.{Spent}
use Rattle.muf_run.specs.inner.Runs.{RunsAlike}
use Rattle.muf_run.specs.inner.Machine.{next_of}
use Rattle.muf_run.specs.inner.Ends.{UnitEnds, StepEnds}
use Rattle.muf_run.specs.declared.ran.Step.TheVariants.{Went}
use Rattle.muf_run.proofs.Running.{going_far, units_over, taken_over, spent}
use Rattle.muf_run.proofs.run.run_local.Goals as goal

pub loop-taken-preserved : goal.loop-taken-preserved
loop-taken-preserved c =
    let z : StepEnds (c.args.most - c.loop-taken.taken) c.args.code.now (flat c.loop-taken.frame) (Went c.in-Went.units) (flat c.step.new.frame) = c.in-Went.ensures in (
      omega (arith, z.1, c.loop-taken-test.true),
      λ codes s h n.
          (let i = c.loop-taken.invariant.1 codes s h n in
          going_far c.args.most c.loop-taken.taken c.in-Went.units c.args.code.now codes (flat c.loop-taken.frame) (flat c.step.new.frame) s i.0 z.1 z.2 i.1 i.2 i.3 i.4),
    )

pub loop-taken-smaller : goal.loop-taken-smaller
loop-taken-smaller c =
    let z : StepEnds (c.args.most - c.loop-taken.taken) c.args.code.now (flat c.loop-taken.frame) (Went c.in-Went.units) (flat c.step.new.frame) = c.in-Went.ensures in
    omega (arith, z.0, z.1, c.loop-taken-test.true)

pub overflow_add-taken : goal.overflow_add-taken
overflow_add-taken c =
    let z : StepEnds (c.args.most - c.loop-taken.taken) c.args.code.now (flat c.loop-taken.frame) (Went c.in-Went.units) (flat c.step.new.frame) = c.in-Went.ensures in
    omega (arith, z.1, c.loop-taken-test.true, c.ranges.most)

pub returns-in-Over-clause-answer : goal.returns-in-Over-clause-answer
returns-in-Over-clause-answer c codes h =
    let z : (c.in_ok-ran-in-Over.ran ≡ Going 0 → ⊥) × UnitEnds c.args.code.now (flat c.loop-taken.frame) (next_of c.in_ok-ran-in-Over.ran (flat c.step.new.frame)) = over_by (λ ran. (ran ≡ Going 0 → ⊥) × UnitEnds c.args.code.now (flat c.loop-taken.frame) (next_of ran (flat c.step.new.frame))) c.in_ok-ran-in-Over.was c.in-Over.ensures in
    let l : c.loop-taken.taken < c.args.most = omega (arith, c.loop-taken-test.true) in
    let i = c.loop-taken.invariant.1 codes (decode (c.args.code.now ∷ codes) (flat c.args.frame.now)) h.state h.nested in
    rw (c.finish.ensures.value, c.finish.ensures.units, i.3) (units_over c.args.most c.loop-taken.taken (c.args.code.now ∷ codes) c.in_ok-ran-in-Over.ran (flat c.step.new.frame) i.0 l z.0 i.2 (z.1 codes i.0 i.1))

pub returns-in-Over-clause-count : goal.returns-in-Over-clause-count
returns-in-Over-clause-count c codes h =
    let z : (c.in_ok-ran-in-Over.ran ≡ Going 0 → ⊥) × UnitEnds c.args.code.now (flat c.loop-taken.frame) (next_of c.in_ok-ran-in-Over.ran (flat c.step.new.frame)) = over_by (λ ran. (ran ≡ Going 0 → ⊥) × UnitEnds c.args.code.now (flat c.loop-taken.frame) (next_of ran (flat c.step.new.frame))) c.in_ok-ran-in-Over.was c.in-Over.ensures in
    let l : c.loop-taken.taken < c.args.most = omega (arith, c.loop-taken-test.true) in
    let i = c.loop-taken.invariant.1 codes (decode (c.args.code.now ∷ codes) (flat c.args.frame.now)) h.state h.nested in
    rw (c.finish.ensures.units, i.4) (taken_over c.args.most c.loop-taken.taken (c.args.code.now ∷ codes) c.in_ok-ran-in-Over.ran (flat c.step.new.frame) i.0 l z.0 (z.1 codes i.0 i.1))

pub returns-clause-answer : goal.returns-clause-answer
returns-clause-answer c codes h =
    let i = c.loop-taken.invariant.1 codes (decode (c.args.code.now ∷ codes) (flat c.args.frame.now)) h.state h.nested in
    let z = spent (c.args.code.now ∷ codes) (flat c.loop-taken.frame) (decode (c.args.code.now ∷ codes) (flat c.args.frame.now)) i.0 c.args.most c.loop-taken.taken i.1 i.2 (omega (arith, c.loop-taken-test.false)) i.3 in
    subst (λ g. RunsAlike (c.args.code.now ∷ codes) Spent (flat g) (units c.args.most (decode (c.args.code.now ∷ codes) (flat c.args.frame.now)))) (sym c.set_units.ensures) (rw z.2 (z.0, z.1))
