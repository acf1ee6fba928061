use Rattle.std.proofs.Common.{◌≡◌, length, sym, subst, Err}
use Rattle.muf_model.specs.Answer.{refuses}
use Rattle.muf_model.specs.Rows.{primitive}
use Rattle.muf_frame.specs.inner.Shown.{flat}
use Rattle.muf_frame.specs.inner.Moves.{scope_of}
use Rattle.muf_frame.specs.inner.Answers.{AppliedOr}
use Rattle.muf_run.proofs.instr.array_word.Goals as goal

pub returns-in-Err-Fault : goal.returns-in-Err-Fault
returns-in-Err-Fault c =
    let f = c.args.frame.now in
    let answer = primitive c.args.prim (scope_of (length c.args.code.now.words) (flat f)) (flat f).stack in
    let h : (answer ≡ refuses c.in-Err-Fault.refused) × (c.apply.new.frame ≡ f) =
    subst (λ e. AppliedOr answer f c.apply.new.frame (Err e)) c.in-Err-Fault.field-0-is (c.in-Err-Fault.ensures (length c.args.code.now.words)) in
    rw (h.0, sym h.1) c.fault.ensures
