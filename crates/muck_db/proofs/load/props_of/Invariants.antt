use Rattle.std.proofs.Common.{◌≡◌, map, take}
use Rattle.std.specs.FinMap.{from_entries}
use Rattle.muck_store.specs.Forms.{entry_at}
use Rattle.muck_db.proofs.load.props_of.Given as goal

abbrev pub invariant-loop-property : goal.invariant-loop-property
invariant-loop-property l = l.props ≡ from_entries (map entry_at (take l.property-index l.properties))
