use Rattle.std.specs.Prelude.{◌≡◌, ◌≤◌, drop, length}
use Rattle.muck_mirror.specs.Bodies.{literal_at}
use Rattle.muck_mirror.proofs.body.literal_at.Given as goal

abbrev pub invariant-loop-i : goal.invariant-loop-i
invariant-loop-i l = record {
  within : l.i ≤ length l.bytes;
  same : literal_at l.wanted l.bytes ≡ literal_at (drop l.i l.wanted) (drop l.i l.bytes);
}
