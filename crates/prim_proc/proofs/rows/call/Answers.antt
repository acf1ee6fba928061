use Rattle.std.proofs.Common.{rules, ◌≡◌, Some, None, sym, ap, ◌∙◌, subst}
use Rattle.muf_frame.specs.inner.Answers.{text_at}
use Rattle.muf_frame.specs.inner.Shown.{flat}
use Rattle.muck_perm.specs.inner.Guards.{world_of}
use Rattle.prim_proc.specs.inner.Plans.{Plans}
use Rattle.prim_proc.specs.inner.Taken.{entering_at}
use Rattle.prim_proc.proofs.Taking.{call_bare, call_named}
use Rattle.prim_proc.proofs.rows.call.Goals as goal

pub returns : goal.returns
returns c = λ x p q.
    let w = world_of c.args.guard.now in
    let a = c.args.guard.now.actor in
    let stack = (flat c.args.frame.now).stack in
    let named : text_at 0 stack ≡ Some c.in-Some.name.now = search rules in
    let same : c.in_ok-word.word ≡ c.in-Some.name.now = search rules in
    subst (λ e. Plans e x w q c.enter-2.result) (sym (call_named x a p w q stack c.in-Some.name.now c.object_at-2.result named c.object_at-2.ensures ∙ ap (λ t. entering_at w a c.object_at-2.result (Some t)) (sym same)))
    (c.enter-2.ensures x q)

pub returns-in_default : goal.returns-in_default
returns-in_default c = λ x p q.
    let w = world_of c.args.guard.now in
    let a = c.args.guard.now.actor in
    let stack = (flat c.args.frame.now).stack in
    let bare : text_at 0 stack ≡ None = search rules in
    subst (λ e. Plans e x w q c.enter.result) (sym (call_bare x a p w q stack c.object_at.result bare c.object_at.ensures)) (c.enter.ensures x q)
