use Rattle.std.proofs.Common.{◌≡◌, length}
use Rattle.mpi.specs.Values.{past_spaces}
use Rattle.mpi.proofs.lists.past_spaces.Given as goal

abbrev pub invariant-loop-first : goal.invariant-loop-first
invariant-loop-first l = past_spaces l.text ≡ past_spaces l.rest

abbrev pub decreases-loop-first : goal.decreases-loop-first
decreases-loop-first l = length l.rest
