use Rattle.spec_dumps.specs.inner.Holding.{Keeps}
use Rattle.muck_dumper.specs.inner.Dumping.{history_seen}
use Rattle.muck_dumper.proofs.Ways.{stops_dead, stops_spent, dies_safe}
use Rattle.muck_dumper.proofs.holds.dies.Goals as goal

pub returns-in-Ok-clause-stops : goal.returns-in-Ok-clause-stops
returns-in-Ok-clause-stops g c = λ log from may.
    let t = c.in-Ok.ensures.ok in
    stops_dead g.D.Disk.tells g.D.Disk.seen g.D.Disk.moment g.D.Disk.images g.D.Disk.faults c.args.first.now c.args.second.now from (λ mounted. Keeps g.D.Disk.seen g.D.Disk.moment g.D.Disk.images g.D.Disk.faults log c.args.first.now c.args.second.now mounted (history_seen c.args.seat.now.me.0)) c.args.seat.now.me c.die_turn.new.seat.me may t.0
    (λ mounted on v. dies_safe g.D.Disk.tells g.D.Disk.seen g.D.Disk.moment g.D.Disk.images g.D.Disk.faults log c.args.first.now c.args.second.now mounted c.args.seat.now.me c.die_turn.new.seat.me t.0 t.1 v)

pub returns-in-Err-clause-stops : goal.returns-in-Err-clause-stops
returns-in-Err-clause-stops g c = λ log from may.
    let e = c.in-Err.ensures.err in
    stops_spent g.D.Disk.tells g.D.Disk.seen g.D.Disk.moment g.D.Disk.images g.D.Disk.faults c.args.first.now c.args.second.now from (λ mounted. Keeps g.D.Disk.seen g.D.Disk.moment g.D.Disk.images g.D.Disk.faults log c.args.first.now c.args.second.now mounted (history_seen c.args.seat.now.me.0)) c.args.seat.now.me c.die_turn.new.seat.me c.requires.rests e.0 e.1 e.2
    (λ mounted on v. v.safe)
