use Rattle.std.proofs.Common.{rules, ◌≡◌, ◌+◌, ◌≤◌, length, sym, ap, ◌∙◌, false, true}
use Rattle.std.specs.Prelude.{is_some}
use Rattle.muck_laws.proofs.Options.{some_mapped}
use Rattle.muf_model.specs.inner.View.{view}
use Rattle.muf_model.specs.Answer.{variable_at}
use Rattle.muf_frame.specs.inner.Shown.{flat, locked_by}
use Rattle.muf_frame.specs.inner.Moves.{scope_of}
use Rattle.muf_run.proofs.Stacks.{keep_none, keep_done, height_alike}
use Rattle.muf_run.proofs.items.keep.Goals as goal

pub returns-then-is_none : goal.returns-then-is_none
returns-then-is_none c =
    let h : locked_by (flat c.args.frame.now).marks + 1 ≤ length (flat c.args.frame.now).stack = height_alike _ c.args.frame.now.stack (search (rules, c.need.ensures, c.in_default.not-Err)) in
    let e : is_some (variable_at c.args.v.0 (scope_of 0 (flat c.args.frame.now))) ≡ false = ap is_some (sym (c.variable.ensures 0)) ∙ some_mapped view _ ∙ some_mapped _ c.variable.result ∙ c.if-is_none.ensures in
    rw (keep_none c.args.v.0 (flat c.args.frame.now) h e) c.fault-then-is_none.ensures

pub returns-in-Some : goal.returns-in-Some
returns-in-Some c =
    let h : locked_by (flat c.args.frame.now).marks + 1 ≤ length (flat c.args.frame.now).stack = height_alike _ c.args.frame.now.stack (search (rules, c.need.ensures, c.in_default.not-Err)) in
    let e : is_some (variable_at c.args.v.0 (scope_of 0 (flat c.args.frame.now))) ≡ true = ap is_some (sym (c.variable.ensures 0)) ∙ some_mapped view _ ∙ some_mapped _ c.variable.result ∙ c.if-is_none.ensures in
    let q = ap flat c.in-Some.ensures.some in
    let t : c.set_variable-set.result ≡ true = c.set_variable-set.ensures.found 0 ∙ sym (ap (λ f. is_some (variable_at c.args.v.0 (scope_of 0 f))) q) ∙ e in
    keep_done c.args.v.0 (flat c.args.frame.now) (flat c.pop_item.new.self) (flat c.set_variable-set.new.self) (view c.in-Some.item) q h e (c.set_variable-set.ensures.yes t)
