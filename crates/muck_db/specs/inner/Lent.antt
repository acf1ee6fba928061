-- What the table ends as, where one of its slots is lent.
use Rattle.std.specs.Prelude.{ℕ, slice_set}
use Rattle.std.specs.Borrow.{Fml, MutBor, Lends}
use Rattle.muck_db.specs.declared.slot.Slot.{Slot}
use Rattle.muck_db.specs.inner.Table.{Table}
use Rattle.muck_db.specs.contracts.slots.Slots.{the_row as slots_row}
use Rattle.muck_db.specs.contracts.slot.Slot.{the_row as slot_row}

-- the slot of a number, set
abbrev pub with_slot : Table → ℕ → Slot → Table
with_slot t k s = record { items = slice_set t.items k s }

-- the slot k is that one
abbrev pub LendsSlot : MutBor Table → ℕ → MutBor Slot → Fml
LendsSlot t k r = Lends slots_row slot_row t r (λ s. with_slot t.now k s)
