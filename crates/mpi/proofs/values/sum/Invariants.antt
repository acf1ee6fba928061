use Rattle.std.proofs.Common.{◌≡◌, take}
use Rattle.mpi.specs.Values.{sum_of}
use Rattle.mpi.proofs.values.sum.Given as goal

abbrev pub invariant-loop-value : goal.invariant-loop-value
invariant-loop-value l = l.sum ≡ sum_of (take l.value-index l.values)
