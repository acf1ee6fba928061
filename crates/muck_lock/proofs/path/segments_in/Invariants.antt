use Rattle.std.proofs.Common.{◌≡◌, ◌+◌, ◌≤◌, drop}
use Rattle.muck_lock.specs.Paths.{segments_from, segments_in}
use Rattle.muck_lock.proofs.path.segments_in.Given as goal

abbrev pub invariant-loop-b : goal.invariant-loop-b
invariant-loop-b l = record {
  counted : l.segments + segments_from l.inside (drop l.b-index l.bytes) ≡ segments_in l.bytes;
  few : l.segments ≤ l.b-index;
}
