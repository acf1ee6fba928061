use Rattle.std.proofs.Common.{refl, sym, ◌∙◌, arith, None, Ok, Err}
use Rattle.muck_laws.proofs.Results.{if_err, on_ok}
use Rattle.spec_events.specs.Own.{Stage}
use Rattle.spec_dumps.specs.Fronts.{at_cut}
use Rattle.spec_dumps.specs.inner.Holding.{Keeps}
use Rattle.muck_dumping.specs.inner.Between.{IsPending, IsWritten}
use Rattle.muck_dumping.proofs.AtOnce.{pending_mounted}
use Rattle.muck_dumping.proofs.Knowing.{knows_stored}
use Rattle.muck_dumper.specs.inner.Dumping.{history_seen}
use Rattle.muck_dumper.specs.inner.Steps.{Stops}
use Rattle.muck_dumper.proofs.Making.{told_as, told_ends, told_written}
use Rattle.muck_dumper.proofs.Ways.{stops_before, watches_stored, watches_before}
use Rattle.muck_dumper.proofs.holds.makes.Goals as goal

pub write-requires-clause-mounted : goal.write-requires-clause-mounted
write-requires-clause-mounted g c = λ log tells is.
    let there = c.requires.mounted tells in
    pending_mounted g.D.Disk.seen g.D.Disk.moment g.D.Disk.images g.D.Disk.faults c.args.store.now.log c.args.first.now c.args.second.now there.0 (history_seen c.args.seat.now.me.0) c.args.pending there.1 log is

pub write-requires-clause-batch : goal.write-requires-clause-batch
write-requires-clause-batch g c =
    let w = at_cut (history_seen c.args.seat.now.me.0).start (history_seen c.args.seat.now.me.0).entries in (w.live.objects, w.live.board.tune, c.requires.batch)

pub returns-in-Ok-clause-knows : goal.returns-in-Ok-clause-knows
returns-in-Ok-clause-knows g c =
    on_ok c.ends.result (c.ends.ensures.marks (c.write.ensures.marks _ _ c.requires.batch)) (λ goes. knows_stored c.write.new.store (history_seen c.ends.new.seat.me.0) c.in-Ok.ensures.some goes)

pub returns-in-Ok-clause-ok : goal.returns-in-Ok-clause-ok
returns-in-Ok-clause-ok g c =
    on_ok c.ends.result (c.ends.ensures.ok (Ok tt) tt) (λ t.
    watches_stored g.D.Disk.tells g.D.Disk.seen g.D.Disk.moment g.D.Disk.images g.D.Disk.faults c.write.new.store.log c.write.new.first c.write.new.second (Stage.dumping c.args.pending.number)
    (λ mounted. IsPending g.D.Disk.seen g.D.Disk.moment g.D.Disk.images g.D.Disk.faults c.args.store.now.log c.args.first.now c.args.second.now mounted (history_seen c.args.seat.now.me.0) c.args.pending)
    (λ mounted. IsWritten g.D.Disk.seen g.D.Disk.moment g.D.Disk.images g.D.Disk.faults c.write.new.store.log c.write.new.first c.write.new.second mounted (history_seen c.args.seat.now.me.0) (Ok tt))
    c.args.seat.now.me c.ends.new.seat.me c.in-Ok.ensures.some (λ mounted on p. c.in-Ok.ensures.written mounted (history_seen c.args.seat.now.me.0) on p) t)

pub returns-in-Ok-clause-err : goal.returns-in-Ok-clause-err
returns-in-Ok-clause-err g c =
    if_err c.ends.result
    (λ fault. Stops g.D.Disk.tells g.D.Disk.moment g.D.Disk.images g.D.Disk.faults c.write.new.first c.write.new.second fault (Stage.dumping c.args.pending.number) (λ mounted. IsWritten g.D.Disk.seen g.D.Disk.moment g.D.Disk.images g.D.Disk.faults c.write.new.store.log c.write.new.first c.write.new.second mounted (history_seen c.args.seat.now.me.0) (Ok tt)) c.args.seat.now.me c.ends.new.seat.me)
    (λ fault. Stops g.D.Disk.tells g.D.Disk.moment g.D.Disk.images g.D.Disk.faults c.write.new.first c.write.new.second fault (Stage.dumping c.args.pending.number) (λ mounted. IsPending g.D.Disk.seen g.D.Disk.moment g.D.Disk.images g.D.Disk.faults c.args.store.now.log c.args.first.now c.args.second.now mounted (history_seen c.args.seat.now.me.0) c.args.pending) c.args.seat.now.me c.ends.new.seat.me)
    (c.ends.ensures.err (Ok tt) tt) (λ fault t.
    stops_before g.D.Disk.tells g.D.Disk.moment g.D.Disk.images g.D.Disk.faults c.write.new.first c.write.new.second fault (Stage.dumping c.args.pending.number)
    (λ mounted. IsPending g.D.Disk.seen g.D.Disk.moment g.D.Disk.images g.D.Disk.faults c.args.store.now.log c.args.first.now c.args.second.now mounted (history_seen c.args.seat.now.me.0) c.args.pending)
    (λ mounted. IsWritten g.D.Disk.seen g.D.Disk.moment g.D.Disk.images g.D.Disk.faults c.write.new.store.log c.write.new.first c.write.new.second mounted (history_seen c.args.seat.now.me.0) (Ok tt))
    c.args.seat.now.me c.ends.new.seat.me (λ mounted on p. c.in-Ok.ensures.written mounted (history_seen c.args.seat.now.me.0) on p) t)

pub returns-in-NoMemory-clause-err : goal.returns-in-NoMemory-clause-err
returns-in-NoMemory-clause-err g c =
    stops_before g.D.Disk.tells g.D.Disk.moment g.D.Disk.images g.D.Disk.faults c.write.new.first c.write.new.second c.dies.result (Stage.dumping c.args.pending.number)
    (λ mounted. IsPending g.D.Disk.seen g.D.Disk.moment g.D.Disk.images g.D.Disk.faults c.args.store.now.log c.args.first.now c.args.second.now mounted (history_seen c.args.seat.now.me.0) c.args.pending)
    (λ mounted. Keeps g.D.Disk.seen g.D.Disk.moment g.D.Disk.images g.D.Disk.faults None c.write.new.first c.write.new.second mounted (history_seen c.args.seat.now.me.0))
    c.args.seat.now.me c.dies.new.seat.me (λ mounted on p. (c.in-Err.ensures.written mounted (history_seen c.args.seat.now.me.0) on p).keeps)
    (c.dies.ensures.stops None (Stage.dumping c.args.pending.number) refl)

pub returns-in_default : goal.returns-in_default
returns-in_default g c = record {
  own = c.fails.ensures.own;
  knows = c.fails.ensures.knows (c.write.ensures.marks _ _ c.requires.batch) (c.in-Err.ensures.number ∙ sym c.requires.number);
  ok =
      on_ok c.fails.result (c.fails.ensures.ok (Err (told_as c.in-Err.fault)) (told_ends c.in-Err.fault c.in_default.not-NoMemory)) (λ t.
      watches_before g.D.Disk.tells g.D.Disk.seen g.D.Disk.moment g.D.Disk.images g.D.Disk.faults c.fails.new.store.log c.fails.new.first c.fails.new.second (Stage.dumping c.args.pending.number)
      (λ mounted. IsPending g.D.Disk.seen g.D.Disk.moment g.D.Disk.images g.D.Disk.faults c.args.store.now.log c.args.first.now c.args.second.now mounted (history_seen c.args.seat.now.me.0) c.args.pending)
      (λ mounted. IsWritten g.D.Disk.seen g.D.Disk.moment g.D.Disk.images g.D.Disk.faults c.write.new.store.log c.write.new.first c.write.new.second mounted (history_seen c.args.seat.now.me.0) (Err (told_as c.in-Err.fault)))
      c.args.seat.now.me c.fails.new.seat.me (λ mounted on p.
      told_written g.D.Disk.seen g.D.Disk.moment g.D.Disk.images g.D.Disk.faults c.write.new.store.log c.write.new.first c.write.new.second mounted (history_seen c.args.seat.now.me.0) c.in-Err.fault (c.in-Err.ensures.written mounted (history_seen c.args.seat.now.me.0) on p)) t);
  err =
      if_err c.fails.result
      (λ fault. Stops g.D.Disk.tells g.D.Disk.moment g.D.Disk.images g.D.Disk.faults c.fails.new.first c.fails.new.second fault (Stage.dumping c.args.pending.number) (λ mounted. IsWritten g.D.Disk.seen g.D.Disk.moment g.D.Disk.images g.D.Disk.faults c.write.new.store.log c.write.new.first c.write.new.second mounted (history_seen c.args.seat.now.me.0) (Err (told_as c.in-Err.fault))) c.args.seat.now.me c.fails.new.seat.me)
      (λ fault. Stops g.D.Disk.tells g.D.Disk.moment g.D.Disk.images g.D.Disk.faults c.fails.new.first c.fails.new.second fault (Stage.dumping c.args.pending.number) (λ mounted. IsPending g.D.Disk.seen g.D.Disk.moment g.D.Disk.images g.D.Disk.faults c.args.store.now.log c.args.first.now c.args.second.now mounted (history_seen c.args.seat.now.me.0) c.args.pending) c.args.seat.now.me c.fails.new.seat.me)
      (c.fails.ensures.err (Err (told_as c.in-Err.fault)) (told_ends c.in-Err.fault c.in_default.not-NoMemory)) (λ fault t.
      stops_before g.D.Disk.tells g.D.Disk.moment g.D.Disk.images g.D.Disk.faults c.fails.new.first c.fails.new.second fault (Stage.dumping c.args.pending.number)
      (λ mounted. IsPending g.D.Disk.seen g.D.Disk.moment g.D.Disk.images g.D.Disk.faults c.args.store.now.log c.args.first.now c.args.second.now mounted (history_seen c.args.seat.now.me.0) c.args.pending)
      (λ mounted. IsWritten g.D.Disk.seen g.D.Disk.moment g.D.Disk.images g.D.Disk.faults c.write.new.store.log c.write.new.first c.write.new.second mounted (history_seen c.args.seat.now.me.0) (Err (told_as c.in-Err.fault)))
      c.args.seat.now.me c.fails.new.seat.me (λ mounted on p.
      told_written g.D.Disk.seen g.D.Disk.moment g.D.Disk.images g.D.Disk.faults c.write.new.store.log c.write.new.first c.write.new.second mounted (history_seen c.args.seat.now.me.0) c.in-Err.fault (c.in-Err.ensures.written mounted (history_seen c.args.seat.now.me.0) on p)) t);
  first_later = omega (arith, c.write.ensures.first_later, c.fails.ensures.first_later);
  second_later = omega (arith, c.write.ensures.second_later, c.fails.ensures.second_later);
  first_attached = c.fails.ensures.first_attached ∙ c.write.ensures.first_attached;
  second_attached = c.fails.ensures.second_attached ∙ c.write.ensures.second_attached;
}
