use Rattle.std.specs.Prelude.{◌≡◌, take, drop, ◌++◌}
use Rattle.muck_mirror.specs.Bodies.{FedBody}
use Rattle.muck_mirror.specs.Mirrors.{bodies_kept_with}
use Rattle.muck_mirror.proofs.feeding.place_of.Given as goal

abbrev pub invariant-loop-k : goal.invariant-loop-k
invariant-loop-k l = record {
  at : l.at ≡ l.k-index;
  place : (b : FedBody) → b.number ≡ l.number → bodies_kept_with l.next b l.kept ≡ take l.k-index l.kept ++ bodies_kept_with l.next b (drop l.k-index l.kept);
}
