-- What may be in the blocks of a table.
use Rattle.std.specs.Prelude.{◌≡◌, ℕ, ◌/◌, Bool, true, false, not, List, Option, Some, None, slice_get}
use Rattle.std.specs.Option.{option_map_or}
use Rattle.spec_live.specs.Objects.{is_garbage}
use Rattle.muck_db.specs.declared.slot.Slot.{Slot}
use Rattle.muck_db.specs.inner.Slots.{shown}
use Rattle.spec_live.specs.declared.saving.Saving.{Saving}
use Rattle.spec_live.specs.declared.saving.Saving.TheVariants.{Due, Pending, Done}
use Rattle.muck_db.specs.declared.blocks.Flag.{Flag}
use Rattle.muck_db.specs.declared.blocks.Flag.TheVariants.{Unsaved, Garbage, Marked}
use Rattle.muck_db.specs.declared.blocks.Block.{Block}

abbrev pub full : Block
full = record { unsaved = true; garbage = true; marked = true }

abbrev pub has : Flag → Block → Bool
has Unsaved b = b.unsaved
has Garbage b = b.garbage
has Marked b = b.marked

abbrev pub is_done : Saving → Bool
is_done Due = false
is_done Pending = false
is_done Done = true

abbrev pub is_some : {X : Type 0} → Option X → Bool
is_some None = false
is_some (Some x) = true

-- whether a slot is what the flag tells of
abbrev pub is_so : Flag → Slot → Bool
is_so Unsaved s = not (is_done s.saving)
is_so Garbage s = is_garbage (shown s).kind
is_so Marked s = is_some s.mark

-- whether that may be in a block, which may be anything where the block isn't there
unfoldable pub flagged : Flag → List Block → ℕ → Bool
flagged flag blocks j = option_map_or (has flag) (slice_get blocks j) true

-- the slot of a number isn't what the flag tells of
abbrev pub LacksAt : Flag → List Slot → ℕ → Type 0
LacksAt flag slots k = (s : Slot) → slice_get slots k ≡ Some s → is_so flag s ≡ false

-- each slot that is what a flag tells of lies in a block with that flag
abbrev pub IsCovered : List Slot → List Block → Type 0
IsCovered slots blocks = (flag : Flag) (k : ℕ) → flagged flag blocks (k / 16) ≡ false → LacksAt flag slots k
