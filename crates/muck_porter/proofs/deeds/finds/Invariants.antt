use Rattle.std.proofs.Common.{◌≤◌, ◌-◌, vec_len}
use Rattle.muck_porter.proofs.deeds.finds.Given as goal

abbrev pub invariant-loop-at : goal.invariant-loop-at
invariant-loop-at l = l.from ≤ l.at

abbrev pub decreases-loop-at : goal.decreases-loop-at
decreases-loop-at l = vec_len l.peers - l.at
