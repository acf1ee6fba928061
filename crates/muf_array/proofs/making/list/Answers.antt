use Rattle.std.proofs.Common.{refl, sym, subst, ◌∙◌}
use Rattle.muf_frame.specs.inner.Shown.{flat}
use Rattle.muf_frame.specs.inner.Moves.{scope_of}
use Rattle.muf_frame.specs.inner.Answers.{AppliedOr}
use Rattle.muf_array.specs.inner.Taken.{list_read}
use Rattle.muf_array.proofs.Counting.{list_used}
use Rattle.muf_array.proofs.making.list.Goals as goal

pub returns-in-Ok : goal.returns-in-Ok
returns-in-Ok c =
    let f = flat c.args.frame.now in
    subst (λ a. AppliedOr a c.args.frame.now c.make_list.new.frame c.make_list.result) (sym (list_used (scope_of 0 f) f.stack ∙ c.in-Ok.ensures.ok list_read)) c.make_list.ensures

pub returns-in-Err : goal.returns-in-Err
returns-in-Err c =
    let f = flat c.args.frame.now in
    (list_used (scope_of 0 f) f.stack ∙ c.in-Err.ensures.err list_read, refl)
