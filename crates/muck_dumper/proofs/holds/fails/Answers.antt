use Rattle.std.proofs.Common.{ℕ, refl, sym, subst, Err}
use Rattle.std.proofs.lemmas.Result.{err_from_is_err_and}
use Rattle.muck_laws.proofs.Results.{on_ok}
use Rattle.muck_log.specs.declared.fault.LogFault.TheVariants.{DiskFault}
use Rattle.spec_events.specs.Own.{Stage}
use Rattle.spec_dumps.specs.inner.Holding.{FailedLast}
use Rattle.muck_work.specs.inner.Seats.{Chair}
use Rattle.muck_dumping.specs.inner.Between.{Knows, IsWritten}
use Rattle.muck_dumper.specs.inner.Dumping.{history_seen}
use Rattle.muck_dumper.proofs.Making.{watches_after, stops_after}
use Rattle.muck_dumper.proofs.holds.fails.Goals as goal

pub mounts-requires-clause-rests : goal.mounts-requires-clause-rests
mounts-requires-clause-rests g c = (c.in_ok-ends.ensures.ok (Err DiskFault) tt).rests

pub returns-in_err-ends-clause-err : goal.returns-in_err-ends-clause-err
returns-in_err-ends-clause-err g c = λ r e.
    let p = err_from_is_err_and c.from_residual.result c.from_residual.ensures.1 in
    rw (p.1, p.2) (c.in_err-ends.ensures.err r e)

pub returns-clause-knows : goal.returns-clause-knows
returns-clause-knows g c = λ goes number.
    let k : Knows c.args.store.now (history_seen c.ends.new.seat.me.0) = record {
      marks = c.in_ok-ends.ensures.marks goes;
      number = λ none. subst (λ n. FailedLast n (history_seen c.ends.new.seat.me.0)) (sym {A = ℕ} number) (c.in_ok-ends.ensures.last refl);
    } in
    on_ok c.mounts.result c.mounts.ensures.same (λ same. subst (λ (x : Chair). Knows c.mounts.new.store (history_seen x.0)) (sym {A = Chair} same) (c.mounts.ensures.knows (history_seen c.ends.new.seat.me.0) k))

pub returns-clause-ok : goal.returns-clause-ok
returns-clause-ok g c = λ r e.
    watches_after g.D.Disk.tells g.D.Disk.seen g.D.Disk.moment g.D.Disk.images g.D.Disk.faults c.mounts.result c.args.store.now.log c.mounts.new.store.log c.args.first.now c.args.second.now c.mounts.new.first c.mounts.new.second (Stage.dumping c.args.number)
    (λ mounted. IsWritten g.D.Disk.seen g.D.Disk.moment g.D.Disk.images g.D.Disk.faults c.args.store.now.log c.args.first.now c.args.second.now mounted (history_seen c.args.seat.now.me.0) r)
    c.args.seat.now.me c.ends.new.seat.me c.mounts.new.seat.me (c.in_ok-ends.ensures.ok r e) c.mounts.ensures.same c.mounts.ensures.ready

pub returns-clause-err : goal.returns-clause-err
returns-clause-err g c = λ r e.
    stops_after g.D.Disk.tells g.D.Disk.seen g.D.Disk.moment g.D.Disk.images g.D.Disk.faults c.mounts.result c.args.store.now.log c.args.first.now c.args.second.now c.mounts.new.first c.mounts.new.second (Stage.dumping c.args.number)
    (λ mounted. IsWritten g.D.Disk.seen g.D.Disk.moment g.D.Disk.images g.D.Disk.faults c.args.store.now.log c.args.first.now c.args.second.now mounted (history_seen c.args.seat.now.me.0) r)
    c.args.seat.now.me c.ends.new.seat.me c.mounts.new.seat.me (c.in_ok-ends.ensures.ok r e) c.mounts.ensures.err
