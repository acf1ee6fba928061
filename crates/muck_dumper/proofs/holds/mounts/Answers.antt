use Rattle.std.proofs.Common.{refl, ap, Err}
use Rattle.spec_events.specs.Own.{Stage}
use Rattle.spec_dumps.specs.inner.Holding.{Keeps}
use Rattle.muck_dumping.proofs.Mounting.{ready_mounted, is_disk}
use Rattle.muck_dumper.specs.inner.Dumping.{history_seen}
use Rattle.muck_dumper.proofs.Ways.{stops_before}
use Rattle.muck_dumper.proofs.holds.mounts.Goals as goal

pub returns-in-Ok-clause-ready : goal.returns-in-Ok-clause-ready
returns-in-Ok-clause-ready g c = λ mounted h tells v.
    ready_mounted g.D.Disk.seen g.D.Disk.moment g.D.Disk.images g.D.Disk.faults mounted c.mount.new.self.log c.mount.new.first c.mount.new.second h c.in-Ok.ensures.some (c.mount.ensures.keeps mounted h tells v)

pub returns-in-NoMemory-clause-err : goal.returns-in-NoMemory-clause-err
returns-in-NoMemory-clause-err g c =
    stops_before g.D.Disk.tells g.D.Disk.moment g.D.Disk.images g.D.Disk.faults c.mount.new.first c.mount.new.second c.dies.result Stage.unbound
    (λ mounted. Keeps g.D.Disk.seen g.D.Disk.moment g.D.Disk.images g.D.Disk.faults c.args.store.now.log c.args.first.now c.args.second.now mounted (history_seen c.args.seat.now.me.0))
    (λ mounted. Keeps g.D.Disk.seen g.D.Disk.moment g.D.Disk.images g.D.Disk.faults c.mount.new.self.log c.mount.new.first c.mount.new.second mounted (history_seen c.args.seat.now.me.0))
    c.args.seat.now.me c.dies.new.seat.me
    (λ mounted on v. c.mount.ensures.keeps mounted (history_seen c.args.seat.now.me.0) on v)
    (c.dies.ensures.stops c.mount.new.self.log Stage.unbound refl)

pub returns-in_default-clause-ready : goal.returns-in_default-clause-ready
returns-in_default-clause-ready g c = λ mounted h tells v.
    let is = is_disk c.in-Err.fault c.in_default.not-NoMemory (c.in-Err.ensures.fault mounted h tells v) in
    record { keeps = c.mount.ensures.keeps mounted h tells v; risen = λ none. c.in-Err.ensures.risen mounted h tells v (ap Err is) }
