use Rattle.std.proofs.Common.{ℕ, sym, subst}
use Rattle.muf_model.specs.Rows.{primitive}
use Rattle.muf_frame.specs.inner.Shown.{flat}
use Rattle.muf_frame.specs.inner.Moves.{scope_of}
use Rattle.muf_frame.specs.inner.Answers.{AppliedOr}
use Rattle.muf_array.specs.inner.Open.{prim_of}
use Rattle.muf_array.proofs.changers.Changer.used.Goals as goal

pub returns-in-SetItem : goal.returns-in-SetItem
returns-in-SetItem c words =
    subst (λ s. AppliedOr (primitive (prim_of s) (scope_of words (flat c.args.frame.now)) (flat c.args.frame.now).stack) c.args.frame.now c.apply.new.frame c.apply.result) (sym c.in-SetItem.is) (c.apply.ensures words)

pub returns-in-InsertItem : goal.returns-in-InsertItem
returns-in-InsertItem c words =
    subst (λ s. AppliedOr (primitive (prim_of s) (scope_of words (flat c.args.frame.now)) (flat c.args.frame.now).stack) c.args.frame.now c.apply-in-InsertItem.new.frame c.apply-in-InsertItem.result) (sym c.in-InsertItem.is) (c.apply-in-InsertItem.ensures words)

pub returns-in-AppendItem : goal.returns-in-AppendItem
returns-in-AppendItem c words =
    subst (λ s. AppliedOr (primitive (prim_of s) (scope_of words (flat c.args.frame.now)) (flat c.args.frame.now).stack) c.args.frame.now c.apply-in-AppendItem.new.frame c.apply-in-AppendItem.result) (sym c.in-AppendItem.is) (c.apply-in-AppendItem.ensures words)

pub returns-in-DelItem : goal.returns-in-DelItem
returns-in-DelItem c words =
    subst (λ s. AppliedOr (primitive (prim_of s) (scope_of words (flat c.args.frame.now)) (flat c.args.frame.now).stack) c.args.frame.now c.apply-in-DelItem.new.frame c.apply-in-DelItem.result) (sym c.in-DelItem.is) (c.apply-in-DelItem.ensures words)
