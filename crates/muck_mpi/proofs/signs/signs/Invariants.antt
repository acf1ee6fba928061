use Rattle.std.proofs.Common.{◌≡◌, ◌++◌, length}
use Rattle.mpi.specs.Made.{Inside}
use Rattle.muck_mpi.specs.inner.Signing.{signs_behind}
use Rattle.muck_mpi.proofs.signs.signs.Given as goal

-- what was written, and behind it what is left
abbrev pub invariant-loop-first : goal.invariant-loop-first
invariant-loop-first l = (l.text.items ++ signs_behind l.db l.rest ≡ signs_behind l.db l.fn.objects) × Inside l.text.items

abbrev pub decreases-loop-first : goal.decreases-loop-first
decreases-loop-first l = length l.rest
