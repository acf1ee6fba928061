use Rattle.std.proofs.Common.{◌≡◌, ℕ, ◌≤◌, true, None, drop}
use Rattle.spec_dumps.specs.inner.Holding.{Rests}
use Rattle.spec_events.specs.Histories.{now}
use Rattle.muck_run.specs.inner.Between.{Knows}
use Rattle.muck_run.specs.inner.Dumps.{IsNotedOn}
use Rattle.muck_run.specs.inner.Opens.{Opens}
use Rattle.muck_watching.proofs.Onward.{TowardsLines}
use Rattle.muck_watching.proofs.watching.play_seen.Given as goal

abbrev pub invariant-loop-act : goal.invariant-loop-act
invariant-loop-act g l = record {
  playing : TowardsLines l.acts (drop l.act-index l.acts) l.fn.tracer l.tracer l.fn.world l.world (g.K.Sink.written l.fn.out) (g.K.Sink.written l.out);
  opened : Opens l.most l.world;
  notes : IsNotedOn l.fn.world l.world;
  fine : g.K.Sink.faults l.out ≡ g.K.Sink.faults l.fn.out;
  idle : (now l.world).dumps.running ≡ None;
  knows : Knows l.store l.world;
  rests : (mounted : ℕ) → g.D.Disk.tells ≡ true → Rests g.D.Disk.seen g.D.Disk.moment g.D.Disk.images g.D.Disk.faults l.fn.store.log l.fn.first l.fn.second mounted l.fn.world
      → Rests g.D.Disk.seen g.D.Disk.moment g.D.Disk.images g.D.Disk.faults l.store.log l.first l.second mounted l.world;
  first_attached : g.D.Disk.attached l.first ≡ g.D.Disk.attached l.fn.first;
  second_attached : g.D.Disk.attached l.second ≡ g.D.Disk.attached l.fn.second;
  first_later : g.D.Disk.faults l.fn.first ≤ g.D.Disk.faults l.first;
  second_later : g.D.Disk.faults l.fn.second ≤ g.D.Disk.faults l.second;
}
