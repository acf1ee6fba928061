use Rattle.std.specs.Prelude.{◌≡◌, ◌≤◌, ◌-◌, drop, true, length}
use Rattle.muck_log.specs.Store.{LeavesOnly}
use Rattle.muck_bodies.specs.Bodies.{bodies_of, body_numbered}
use Rattle.muck_bodies.proofs.walk.body.Given as goal

abbrev pub invariant-loop-at : goal.invariant-loop-at
invariant-loop-at g l = record {
  within : l.at ≤ l.end;
  end : g.D.Disk.tells ≡ true → l.end ≡ length (g.D.Disk.seen l.fn.disk);
  found : g.D.Disk.tells ≡ true → body_numbered l.number (bodies_of (drop l.at (g.D.Disk.seen l.fn.disk))) ≡ body_numbered l.number (bodies_of (g.D.Disk.seen l.fn.disk));
  seen : g.D.Disk.tells ≡ true → g.D.Disk.seen l.disk ≡ g.D.Disk.seen l.fn.disk;
  any : g.D.Disk.tells ≡ true → LeavesOnly g.D.Disk.moment g.D.Disk.images l.fn.disk l.disk (g.D.Disk.images l.fn.disk (g.D.Disk.moment l.fn.disk));
  attached : g.D.Disk.attached l.disk ≡ g.D.Disk.attached l.fn.disk;
  later : g.D.Disk.faults l.fn.disk ≤ g.D.Disk.faults l.disk;
}

abbrev pub decreases-loop-at : goal.decreases-loop-at
decreases-loop-at g l = l.end - l.at
