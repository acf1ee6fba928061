use Rattle.std.proofs.Common.{◌++◌, ap, sym, ◌∙◌, subst}
use Rattle.std.specs.Option.{option_map}
use Rattle.muf_model.specs.Ladder.{times, wanted}
use Rattle.muf_model.specs.Needs.{shown_many}
use Rattle.muf_frame.specs.inner.Shown.{flat}
use Rattle.prim_common.specs.inner.Tests.{FewCounted}
use Rattle.prim_common.proofs.Counts.{made_of, counted_at, none_counted}
use Rattle.prim_common.proofs.parts.wanted_parts.Goals as goal

pub returns-in-Some-clause-needs : goal.returns-in-Some-clause-needs
returns-in-Some-clause-needs c =
    let fixed = c.args.needs.fixed.now in
    let many = shown_many c.in-Some.many in
    let stack = (flat c.args.frame.now).stack in
    ap (λ n. fixed ++ (times n many.each ++ many.under)) c.count.ensures.value
    ∙ sym (counted_at fixed many stack)
    ∙ ap (λ o. wanted (made_of fixed o) stack) (sym (ap (option_map shown_many) c.in-Some.is))

pub returns-in-Some-clause-short : goal.returns-in-Some-clause-short
returns-in-Some-clause-short c =
    let few = subst FewCounted (ap (option_map shown_many) c.in-Some.is) c.requires.1 in
    (c.requires.0, few.0, few.1, c.count.ensures.most)

pub returns-in-None-clause-needs : goal.returns-in-None-clause-needs
returns-in-None-clause-needs c =
    let fixed = c.args.needs.fixed.now in
    let stack = (flat c.args.frame.now).stack in
    none_counted fixed stack ∙ ap (λ o. wanted (made_of fixed o) stack) (sym (ap (option_map shown_many) c.in-None.is))
