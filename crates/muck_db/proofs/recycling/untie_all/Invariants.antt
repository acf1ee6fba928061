use Rattle.muck_db.specs.inner.Slots.{untied_slot}
use Rattle.muck_db.proofs.Writes.{Passed}
use Rattle.muck_db.proofs.recycling.untie_all.Given as goal

abbrev pub invariant-loop-k : goal.invariant-loop-k
invariant-loop-k l = Passed (untied_slot l.d) l.k l.fn.slots.items l.slots.items
