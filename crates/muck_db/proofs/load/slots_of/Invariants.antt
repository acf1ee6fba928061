use Rattle.std.proofs.Common.{◌≡◌, map, take}
use Rattle.muck_db.specs.inner.Loading.{slot_of}
use Rattle.muck_db.proofs.load.slots_of.Given as goal

abbrev pub invariant-loop-record : goal.invariant-loop-record
invariant-loop-record l = l.slots.items ≡ map slot_of (take l.record-index l.records)
