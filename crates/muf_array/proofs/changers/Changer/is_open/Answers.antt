use Rattle.std.proofs.Common.{sym, subst}
use Rattle.std.specs.Prelude.{IfOk, IsTrue}
use Rattle.muck_laws.proofs.Results.{open_where}
use Rattle.muf_frame.specs.inner.Shown.{flat}
use Rattle.muf_array.specs.inner.Open.{IsOpen}
use Rattle.muf_array.proofs.Opening.{set_opens, insert_opens, append_opens, delete_opens}
use Rattle.muf_array.proofs.changers.Changer.is_open.Goals as goal

pub returns-in-SetItem : goal.returns-in-SetItem
returns-in-SetItem c =
    subst (λ s. IfOk c.can_change.result (λ yes. IsTrue yes → IsOpen s (flat c.args.frame.now))) (sym c.in-SetItem.is) (open_where c.can_change.result (set_opens (flat c.args.frame.now)) c.can_change.ensures)

pub returns-in-InsertItem : goal.returns-in-InsertItem
returns-in-InsertItem c =
    subst (λ s. IfOk c.can_change-in-InsertItem.result (λ yes. IsTrue yes → IsOpen s (flat c.args.frame.now))) (sym c.in-InsertItem.is) (open_where c.can_change-in-InsertItem.result (insert_opens (flat c.args.frame.now)) c.can_change-in-InsertItem.ensures)

pub returns-in-DelItem : goal.returns-in-DelItem
returns-in-DelItem c =
    subst (λ s. IfOk c.can_delete.result (λ yes. IsTrue yes → IsOpen s (flat c.args.frame.now))) (sym c.in-DelItem.is) (open_where c.can_delete.result (delete_opens (flat c.args.frame.now)) c.can_delete.ensures)

pub returns-in-AppendItem : goal.returns-in-AppendItem
returns-in-AppendItem c y =
    subst (λ s. IsOpen s (flat c.args.frame.now)) (sym c.in-AppendItem.is) (append_opens (flat c.args.frame.now) (c.can_append.ensures y))
