use Rattle.std.proofs.Common.{◌≡◌, reverse, Some, sym, ap, subst, ◌∙◌}
use Rattle.muf_model.specs.Unit.{goes, fault_met}
use Rattle.muf_frame.specs.inner.Shown.{Shown, flat}
use Rattle.muf_frame.specs.inner.Moves.{Unwinds, caught}
use Rattle.muf_running.proofs.Process.{raised_some, raised_none}
use Rattle.muf_running.proofs.running.Running.raise.Goals as goal

pub left-requires : goal.left-requires
left-requires c =
    let h : caught c.args.fault.now (flat c.self.inside.frame) ≡ Some (c.in-Some.count, flat c.unwind.new.self) = subst (λ o. Unwinds c.args.fault.now o (flat c.self.inside.frame) (flat c.unwind.new.self)) c.in-Some.is (subst (λ (x : Shown). Unwinds c.args.fault.now c.in_ok-count.field-0 (flat x) (flat c.unwind.new.self)) c.get_mut.ensures.value c.in_ok-count.ensures.ok) in
    (raised_some (reverse c.self.inside.programs.items) (flat c.self.inside.frame) (flat c.unwind.new.self) c.args.fault.now c.in-Some.count c.self.invariant h).1.0

pub returns-in-Some : goal.returns-in-Some
returns-in-Some c =
    let h : caught c.args.fault.now (flat c.self.inside.frame) ≡ Some (c.in-Some.count, flat c.unwind.new.self) = subst (λ o. Unwinds c.args.fault.now o (flat c.self.inside.frame) (flat c.unwind.new.self)) c.in-Some.is (subst (λ (x : Shown). Unwinds c.args.fault.now c.in_ok-count.field-0 (flat x) (flat c.unwind.new.self)) c.get_mut.ensures.value c.in_ok-count.ensures.ok) in
    let r = raised_some (reverse c.self.inside.programs.items) (flat c.self.inside.frame) (flat c.unwind.new.self) c.args.fault.now c.in-Some.count c.self.invariant h in
    (c.in-Some.count, ap (λ s. fault_met c.args.fault.now s) (sym c.self.view_is) ∙ r.2 ∙ ap (λ t. goes c.in-Some.count t) (sym r.1.1 ∙ sym c.left.ensures))

pub returns-in-None : goal.returns-in-None
returns-in-None c =
    let h = subst (λ o. Unwinds c.args.fault.now o (flat c.self.inside.frame) (flat c.unwind.new.self)) c.in-None.is (subst (λ (x : Shown). Unwinds c.args.fault.now c.in_ok-count.field-0 (flat x) (flat c.unwind.new.self)) c.get_mut.ensures.value c.in_ok-count.ensures.ok) in
    ap (λ s. fault_met c.args.fault.now s) (sym c.self.view_is) ∙ raised_none (reverse c.self.inside.programs.items) (flat c.self.inside.frame) c.args.fault.now c.self.invariant h.0
