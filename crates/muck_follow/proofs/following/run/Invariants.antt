use Rattle.std.proofs.Common.{◌≡◌, ◌≤◌, true, drop}
use Rattle.muck_log.specs.Store.{LeavesOnly}
use Rattle.muck_bodies.specs.Bodies.{bodies_of}
use Rattle.muck_follow.proofs.Replies.{SoFar}
use Rattle.muck_follow.proofs.following.run.Given as goal

abbrev pub invariant-loop-act : goal.invariant-loop-act
invariant-loop-act g l = record {
  told : g.D.Disk.tells ≡ true → SoFar l.acts (drop l.act-index l.acts) (bodies_of (g.D.Disk.seen l.fn.disk)) l.fn.mirror l.mirror (g.K.Sink.written l.fn.out) (g.K.Sink.written l.out);
  fine : g.K.Sink.faults l.out ≡ g.K.Sink.faults l.fn.out;
  attached : g.D.Disk.attached l.disk ≡ g.D.Disk.attached l.fn.disk;
  seen : g.D.Disk.tells ≡ true → g.D.Disk.seen l.disk ≡ g.D.Disk.seen l.fn.disk;
  any : g.D.Disk.tells ≡ true → LeavesOnly g.D.Disk.moment g.D.Disk.images l.fn.disk l.disk (g.D.Disk.images l.fn.disk (g.D.Disk.moment l.fn.disk));
  later : g.D.Disk.faults l.fn.disk ≤ g.D.Disk.faults l.disk;
}
