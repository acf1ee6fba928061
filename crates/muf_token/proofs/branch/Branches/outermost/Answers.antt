use Rattle.std.proofs.Common.{sym, ap, ◌∙◌}
use Rattle.muf_token.specs.Branches.{outermost}
use Rattle.muf_token.proofs.BranchLemmas.{outermost_first}
use Rattle.muf_token.proofs.branch.Branches.outermost.Goals as goal

pub returns-in-Some : goal.returns-in-Some
returns-in-Some c = sym (outermost_first _ _ _ (sym c.as_slice.ensures.value ∙ c.in-Some.ensures.cases.0)) ∙ ap outermost c.self.view_is
