use Rattle.std.proofs.Common.{ap, sym, subst, Ok}
use Rattle.std.specs.Option.{option_map}
use Rattle.muf_model.specs.Needs.{shown_many}
use Rattle.muf_frame.specs.inner.Shown.{flat, locked_by}
use Rattle.prim_common.specs.inner.Tests.{Passes, FewCounted, uncounted}
use Rattle.prim_common.proofs.parts.test_uncounted.Goals as goal

pub test_many-requires-clause-under : goal.test_many-requires-clause-under
test_many-requires-clause-under c = (subst FewCounted (ap (option_map shown_many) c.in-Some.is) c.requires.1).1

pub returns-in-Some : goal.returns-in-Some
returns-in-Some c =
    subst (λ o. Passes (uncounted c.args.needs.fixed.now o (locked_by (flat c.args.frame.now).marks) (flat c.args.frame.now).stack) c.test_many.result) (sym (ap (option_map shown_many) c.in-Some.is)) c.test_many.ensures

pub returns-in-None : goal.returns-in-None
returns-in-None c =
    subst (λ o. Passes (uncounted c.args.needs.fixed.now o (locked_by (flat c.args.frame.now).marks) (flat c.args.frame.now).stack) (Ok tt)) (sym (ap (option_map shown_many) c.in-None.is)) tt
