use Rattle.std.proofs.Common.{◌≡◌, ap, ◌∙◌, subst, Err}
use Rattle.muf_model.specs.Answer.{refuses}
use Rattle.muf_model.specs.Rows.{primitive}
use Rattle.muf_frame.specs.inner.Shown.{flat}
use Rattle.muf_frame.specs.inner.Moves.{scope_of}
use Rattle.muf_frame.specs.inner.Answers.{AppliedOr}
use Rattle.muf_array.specs.inner.Open.{prim_of}
use Rattle.muf_array.proofs.Opening.{never_refused}
use Rattle.muf_array.proofs.changers.Changer.change.Goals as goal

pub unreachable-requires : goal.unreachable-requires
unreachable-requires c =
    let f = c.args.frame.now in
    let answer = primitive (prim_of c.args.self) (scope_of 0 (flat f)) (flat f).stack in
    let h : (answer ≡ refuses c.in-Err-Fault.field-0-0) × (c.used.new.frame ≡ f) = subst (λ r. AppliedOr answer f c.used.new.frame r) (c.in-Err-Fault.is ∙ ap Err c.in-Err-Fault.field-0-is) (c.used.ensures 0) in
    never_refused c.args.self (flat f) 0 c.in-Err-Fault.field-0-0 c.requires h.0
