use Rattle.std.proofs.Common.{◌≡◌, Ok}
use Rattle.muf_model.specs.declared.prims.Primitive.TheVariants as prim
use Rattle.muf_frame.specs.inner.Shown.{flat}
use Rattle.muck_perm.specs.inner.Guards.{world_of}
use Rattle.spec_processes.specs.ProcessRows.{process_row}
use Rattle.prim_proc.specs.inner.Plans.{fact_row}
use Rattle.prim_proc.specs.declared.plan.Plan.TheVariants.{Receive}
use Rattle.prim_proc.proofs.Missing.{other_row}
use Rattle.prim_proc.proofs.Planned.{by_prim, by_row, oldest_own}
use Rattle.prim_proc.proofs.table.plan.Goals as goal

pub returns-in-Call : goal.returns-in-Call
returns-in-Call c = by_prim c.args.place c.args.guard.now.actor c.args.own.now (flat c.args.frame.now).stack (world_of c.args.guard.now) c.args.queue.now c.call.result c.args.prim prim.Call c.in-Call.is (c.call.ensures c.args.place c.args.own.now c.args.queue.now)

pub returns-in-Sleep : goal.returns-in-Sleep
returns-in-Sleep c = by_prim c.args.place c.args.guard.now.actor c.args.own.now (flat c.args.frame.now).stack (world_of c.args.guard.now) c.args.queue.now c.sleep.result c.args.prim prim.Sleep c.in-Sleep.is (c.sleep.ensures c.args.guard.now.actor c.args.own.now (world_of c.args.guard.now) c.args.queue.now)

pub returns-in-Read : goal.returns-in-Read
returns-in-Read c = by_prim c.args.place c.args.guard.now.actor c.args.own.now (flat c.args.frame.now).stack (world_of c.args.guard.now) c.args.queue.now c.read.result c.args.prim prim.Read c.in-Read.is (c.read.ensures c.args.place c.args.guard.now.actor (world_of c.args.guard.now) c.args.queue.now)

pub returns-in-Kill : goal.returns-in-Kill
returns-in-Kill c = by_prim c.args.place c.args.guard.now.actor c.args.own.now (flat c.args.frame.now).stack (world_of c.args.guard.now) c.args.queue.now c.kill.result c.args.prim prim.Kill c.in-Kill.is (c.kill.ensures c.args.place c.args.own.now)

pub returns-in-IsPid : goal.returns-in-IsPid
returns-in-IsPid c = by_prim c.args.place c.args.guard.now.actor c.args.own.now (flat c.args.frame.now).stack (world_of c.args.guard.now) c.args.queue.now c.is_pid.result c.args.prim prim.IsPid c.in-IsPid.is (c.is_pid.ensures c.args.place c.args.guard.now.actor c.args.own.now (world_of c.args.guard.now))

pub returns-in-Queue : goal.returns-in-Queue
returns-in-Queue c = by_prim c.args.place c.args.guard.now.actor c.args.own.now (flat c.args.frame.now).stack (world_of c.args.guard.now) c.args.queue.now c.queue.result c.args.prim prim.Queue c.in-Queue.is (c.queue.ensures c.args.place c.args.own.now c.args.queue.now)

pub returns-in-SetMode : goal.returns-in-SetMode
returns-in-SetMode c = by_prim c.args.place c.args.guard.now.actor c.args.own.now (flat c.args.frame.now).stack (world_of c.args.guard.now) c.args.queue.now c.set_mode.result c.args.prim prim.SetMode c.in-SetMode.is (c.set_mode.ensures c.args.place c.args.guard.now.actor (world_of c.args.guard.now) c.args.queue.now)

pub returns-in-Preempt : goal.returns-in-Preempt
returns-in-Preempt c = by_prim c.args.place c.args.guard.now.actor c.args.own.now (flat c.args.frame.now).stack (world_of c.args.guard.now) c.args.queue.now c.mode_set.result c.args.prim prim.Preempt c.in-Preempt.is (c.mode_set.ensures c.args.place (world_of c.args.guard.now) c.args.queue.now)

pub returns-in-Foreground : goal.returns-in-Foreground
returns-in-Foreground c = by_prim c.args.place c.args.guard.now.actor c.args.own.now (flat c.args.frame.now).stack (world_of c.args.guard.now) c.args.queue.now c.mode_set-in-Foreground.result c.args.prim prim.Foreground c.in-Foreground.is (c.mode_set-in-Foreground.ensures c.args.place (world_of c.args.guard.now) c.args.queue.now)

pub returns-in-Background : goal.returns-in-Background
returns-in-Background c = by_prim c.args.place c.args.guard.now.actor c.args.own.now (flat c.args.frame.now).stack (world_of c.args.guard.now) c.args.queue.now c.mode_set-in-Background.result c.args.prim prim.Background c.in-Background.is (c.mode_set-in-Background.ensures c.args.place (world_of c.args.guard.now) c.args.queue.now)

pub returns-in-EventSend : goal.returns-in-EventSend
returns-in-EventSend c = by_prim c.args.place c.args.guard.now.actor c.args.own.now (flat c.args.frame.now).stack (world_of c.args.guard.now) c.args.queue.now c.event_send.result c.args.prim prim.EventSend c.in-EventSend.is (c.event_send.ensures (world_of c.args.guard.now))

pub returns-in-EventWait : goal.returns-in-EventWait
returns-in-EventWait c = by_prim c.args.place c.args.guard.now.actor c.args.own.now (flat c.args.frame.now).stack (world_of c.args.guard.now) c.args.queue.now (Ok Receive) c.args.prim prim.EventWait c.in-EventWait.is (oldest_own c.args.place c.args.own.now (world_of c.args.guard.now) c.args.queue.now c.requires)

pub returns-in_default : goal.returns-in_default
returns-in_default c =
    let n = c.in_default in
    let row : process_row c.args.prim ≡ fact_row c.args.prim =
    other_row c.args.prim n.not-Call n.not-Fork n.not-Sleep n.not-Read n.not-Kill n.not-IsPid n.not-Queue n.not-SetMode n.not-Preempt n.not-Foreground n.not-Background n.not-Random n.not-EventSend n.not-EventWait in
    by_row c.args.place c.args.guard.now.actor c.args.own.now (flat c.args.frame.now).stack (world_of c.args.guard.now) c.args.queue.now c.fact.result c.args.prim (process_row c.args.prim) (fact_row c.args.prim) row (c.fact.ensures c.args.guard.now.actor _ (world_of c.args.guard.now) c.args.queue.now)
