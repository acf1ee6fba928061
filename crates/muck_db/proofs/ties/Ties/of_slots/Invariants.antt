use Rattle.muck_db.proofs.Tying.{NotedTo}
use Rattle.muck_db.proofs.ties.Ties.of_slots.Given as goal

abbrev pub invariant-loop-k : goal.invariant-loop-k
invariant-loop-k l = NotedTo l.slots.items l.ties.of.items l.k
