use Rattle.std.proofs.Common.{List, reverse, subst}
use Rattle.muf_model.specs.inner.Flat.{decode}
use Rattle.muf_model.specs.Unit.{units}
use Rattle.muf_frame.specs.inner.Shown.{Shown, flat}
use Rattle.muf_running.specs.declared.entered.Entered.{Entered}
use Rattle.muf_running.specs.inner.Fitting.{codes_of}
use Rattle.muf_running.specs.inner.Stints.{LocalFits}
use Rattle.muf_running.proofs.Process.{ran_asked}
use Rattle.muf_model.specs.inner.Nested.{StaysNested}
use Rattle.muf_model.proofs.Nesting.{units_nested}
use Rattle.muf_running.proofs.running.Running.run.Goals as goal

pub returns-clause-asked : goal.returns-clause-asked
returns-clause-asked c =
    let es : List Entered = reverse c.self.inside.programs.items in
    let answer = subst (λ (x : Shown). LocalFits (reverse c.deref.result.now) c.in_ok-local.local (flat c.run_current.new.frame) (units c.args.most (decode (codes_of (reverse c.deref.result.now)) (flat x)))) c.get_mut.ensures.value c.in_ok-local.ensures.answer in
    let fitting : LocalFits es c.in_ok-local.local (flat c.run_current.new.frame) (units c.args.most (decode (codes_of es) (flat c.self.inside.frame))) = subst (λ xs. LocalFits (reverse xs) c.in_ok-local.local (flat c.run_current.new.frame) (units c.args.most (decode (codes_of (reverse xs)) (flat c.self.inside.frame)))) c.deref.ensures.value answer in
    ran_asked c.args.most (decode (codes_of es) (flat c.self.inside.frame)) c.stopped-ran.result (c.stopped-ran.ensures _ fitting)

pub returns-clause-nested : goal.returns-clause-nested
returns-clause-nested c =
    subst (λ s. StaysNested (units c.args.most s)) c.self.view_is (units_nested c.args.most _ c.self.invariant.0.nested)
