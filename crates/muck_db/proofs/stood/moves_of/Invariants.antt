use Rattle.std.proofs.Common.{◌≡◌, ◌++◌, drop}
use Rattle.spec_live.specs.Stood.{moves_from}
use Rattle.muck_db.specs.inner.Slots.{entries_of}
use Rattle.muck_db.proofs.stood.moves_of.Given as goal

abbrev pub invariant-loop-k : goal.invariant-loop-k
invariant-loop-k l = l.moves.items ++ moves_from l.k (drop l.k (entries_of l.slots.items)) ≡ moves_from 0 (entries_of l.slots.items)
