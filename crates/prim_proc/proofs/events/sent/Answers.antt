use Rattle.std.proofs.Common.{rules, ◌≡◌, Some, w32, to_z, of_z, sym}
use Rattle.std.specs.Prelude.{slice_get}
use Rattle.muf_frame.specs.inner.Answers.{int_at, text_at}
use Rattle.muf_frame.specs.inner.Shown.{flat}
use Rattle.prim_proc.proofs.Taking.{sent_at}
use Rattle.prim_proc.proofs.events.sent.Goals as goal

pub returns : goal.returns
returns c =
    let item : slice_get c.args.frame.now.stack 0 ≡ Some c.in_ok-item.item.now = search rules in
    let name : text_at 1 (flat c.args.frame.now).stack ≡ Some c.in_ok-name.name.now = search rules in
    let n = to_z w32 (of_z w32 c.in_ok-pid.pid) in
    let pid : int_at 2 (flat c.args.frame.now).stack ≡ Some n = search rules in
    sym (sent_at c.args.frame.now.stack c.in_ok-item.item.now n c.in_ok-name.name.now item name pid)
