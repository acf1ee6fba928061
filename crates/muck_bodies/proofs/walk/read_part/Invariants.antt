use Rattle.std.specs.Prelude.{◌≡◌, ◌≤◌, ◌-◌, take, drop, true}
use Rattle.muck_log.specs.Store.{LeavesOnly}
use Rattle.muck_bodies.proofs.walk.read_part.Given as goal

abbrev pub invariant-loop-got : goal.invariant-loop-got
invariant-loop-got g l = record {
  within : l.got ≤ l.size;
  bytes : g.D.Disk.tells ≡ true → l.bytes.items ≡ take l.got (drop l.at (g.D.Disk.seen l.fn.disk));
  seen : g.D.Disk.tells ≡ true → g.D.Disk.seen l.disk ≡ g.D.Disk.seen l.fn.disk;
  any : g.D.Disk.tells ≡ true → LeavesOnly g.D.Disk.moment g.D.Disk.images l.fn.disk l.disk (g.D.Disk.images l.fn.disk (g.D.Disk.moment l.fn.disk));
  attached : g.D.Disk.attached l.disk ≡ g.D.Disk.attached l.fn.disk;
  later : g.D.Disk.faults l.fn.disk ≤ g.D.Disk.faults l.disk;
}

abbrev pub decreases-loop-got : goal.decreases-loop-got
decreases-loop-got g l = l.size - l.got
