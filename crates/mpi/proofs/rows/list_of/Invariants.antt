use Rattle.std.proofs.Common.{◌≡◌, take}
use Rattle.mpi.specs.Made.{Inside}
use Rattle.mpi.specs.Values.{values_listed}
use Rattle.mpi.proofs.rows.list_of.Given as goal

abbrev pub invariant-loop-at : goal.invariant-loop-at
invariant-loop-at l = (l.bytes.items ≡ values_listed (take l.at l.values)) × Inside l.bytes.items
