use Rattle.std.proofs.Common.{◌≡◌, ◌≤◌}
use Rattle.spec_events.specs.Own.{Stage}
use Rattle.muck_dumping.specs.inner.Between.{IsReady, Knows}
use Rattle.muck_dumper.specs.inner.Dumping.{history_seen}
use Rattle.muck_dumper.specs.inner.Steps.{Watches}
use Rattle.muck_dumper.proofs.dumping.dumper.Given as goal

abbrev pub invariant-loop : goal.invariant-loop
invariant-loop g l =
    (l.seat.table_id ≡ l.initial.seat.table_id) × (l.seat.id ≡ l.initial.seat.id)
    × Watches g.D.Disk.tells g.D.Disk.seen g.D.Disk.moment g.D.Disk.images g.D.Disk.faults l.store.log l.first l.second Stage.unbound
    (λ mounted. IsReady g.D.Disk.seen g.D.Disk.moment g.D.Disk.images g.D.Disk.faults l.initial.store.log l.initial.first l.initial.second mounted (history_seen l.initial.seat.me.0)) l.initial.seat.me l.seat.me
    × (g.D.Disk.faults l.initial.first ≤ g.D.Disk.faults l.first) × (g.D.Disk.faults l.initial.second ≤ g.D.Disk.faults l.second)
    × Knows l.store (history_seen l.seat.me.0)
    × (g.D.Disk.attached l.first ≡ g.D.Disk.attached l.initial.first) × (g.D.Disk.attached l.second ≡ g.D.Disk.attached l.initial.second)
