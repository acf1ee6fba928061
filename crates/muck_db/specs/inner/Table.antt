-- What contracts see of the table of the objects.
use Rattle.std.specs.Prelude.{List}
use Rattle.muck_db.specs.declared.slot.Slot.{Slot}

-- its slots, by number
pub record Table : Type 0 where
  pub items : List Slot
