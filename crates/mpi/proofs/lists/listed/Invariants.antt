use Rattle.std.proofs.Common.{◌≡◌, map, take}
use Rattle.mpi.specs.Values.{values_listed}
use Rattle.mpi.proofs.lists.listed.Given as goal

abbrev pub invariant-loop-at : goal.invariant-loop-at
invariant-loop-at l = l.bytes.items ≡ values_listed (take l.at (map (λ x. x.now) l.parts))
