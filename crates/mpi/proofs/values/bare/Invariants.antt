use Rattle.std.proofs.Common.{◌≡◌, length}
use Rattle.mpi.specs.Values.{bare_digits}
use Rattle.mpi.proofs.values.bare.Given as goal

abbrev pub invariant-loop-first : goal.invariant-loop-first
invariant-loop-first l = bare_digits l.digits ≡ bare_digits l.rest

abbrev pub decreases-loop-first : goal.decreases-loop-first
decreases-loop-first l = length l.rest
