-- What `@kill` tells.
use Rattle.std.proofs.Common.{◌≡◌, ℕ, List, codes, Some, None, sym, ◌∙◌, ap}
use Rattle.spec_live.specs.Lives.{tell}
use Rattle.spec_rights.specs.declared.act.Actor.{Actor}
use Rattle.spec_rights.specs.Asking.{denial_answered, asked, refused}
use Rattle.spec_rights.specs.Verdict.{verdict}
use Rattle.muck_queue.specs.declared.process.Process.{Process}
use Rattle.muck_queue.specs.Queues.{Queue}
use Rattle.spec_admin.specs.Replies.{killed_reply}
use Rattle.spec_admin.specs.Processes.{ending_act, process_meant, end_told, kill_told}
use Rattle.muck_perm.specs.declared.guard.Guard.{Guard}
use Rattle.muck_perm.specs.inner.Guards.{Done, objects_of, world_of}

-- where the process may be ended
pub ends_told : (d : ℕ) (a : Actor) (text : List ℕ) (q : Queue) (p : Process) (old new : Guard) → process_meant text q ≡ Some p → verdict (objects_of old) a (ending_act p) ≡ None →
    Done (tell d (codes "Process killed.")) old new → Done (kill_told d a q text) old new
unfolding kill_told asked killed_reply
ends_told d a text q p old new m v t =
    let told : kill_told d a q text (world_of old) ≡ tell d killed_reply (world_of old) =
    ap (λ o. end_told d a o (world_of old)) m ∙ ap (λ o. denial_answered o (refused d) (tell d killed_reply) (world_of old)) v in
    (t.0 ∙ sym told, t.1)
