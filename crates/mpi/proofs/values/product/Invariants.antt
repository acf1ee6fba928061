use Rattle.std.proofs.Common.{◌≡◌, take}
use Rattle.mpi.specs.Values.{product_of}
use Rattle.mpi.proofs.values.product.Given as goal

abbrev pub invariant-loop-value : goal.invariant-loop-value
invariant-loop-value l = l.product ≡ product_of (take l.value-index l.values)
