use Rattle.std.proofs.Common.{◌≤◌, length}
use Rattle.muck_db.proofs.ties.Ties.none.Given as goal

abbrev pub invariant-loop-k : goal.invariant-loop-k
invariant-loop-k l = l.k ≤ length l.ties.of.items
