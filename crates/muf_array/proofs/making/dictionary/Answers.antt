use Rattle.std.proofs.Common.{refl, sym, subst, ◌∙◌}
use Rattle.muf_frame.specs.inner.Shown.{flat}
use Rattle.muf_frame.specs.inner.Moves.{scope_of}
use Rattle.muf_frame.specs.inner.Answers.{AppliedOr}
use Rattle.muf_array.specs.inner.Taken.{dict_read}
use Rattle.muf_array.proofs.Counting.{dict_used}
use Rattle.muf_array.proofs.making.dictionary.Goals as goal

pub returns-in-Ok : goal.returns-in-Ok
returns-in-Ok c =
    let f = flat c.args.frame.now in
    subst (λ a. AppliedOr a c.args.frame.now c.make_dictionary.new.frame c.make_dictionary.result) (sym (dict_used (scope_of 0 f) f.stack ∙ c.in-Ok.ensures.ok dict_read)) c.make_dictionary.ensures

pub returns-in-Err : goal.returns-in-Err
returns-in-Err c =
    let f = flat c.args.frame.now in
    (dict_used (scope_of 0 f) f.stack ∙ c.in-Err.ensures.err dict_read, refl)
