use Rattle.std.proofs.Common.{length}
use Rattle.muck_db.proofs.Tying.{UntiesOn}
use Rattle.muck_db.proofs.recycling.untie_these.Given as goal

abbrev pub invariant-loop-k : goal.invariant-loop-k
invariant-loop-k l = UntiesOn l.d l.fn.slots.items l.slots.items l.numbers.keys

abbrev pub decreases-loop-k : goal.decreases-loop-k
decreases-loop-k l = length l.numbers.keys
