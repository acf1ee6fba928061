use Rattle.std.proofs.Common.{◌≡◌, ℕ, ◌<◌, ◌≤◌, Some, false}
use Rattle.std.specs.List.{slice_get}
use Rattle.muck_db.specs.declared.slot.Slot.{Slot}
use Rattle.muck_db.specs.declared.blocks.Flag.{Flag}
use Rattle.muck_db.specs.inner.Blocks.{has, is_so}
use Rattle.muck_db.proofs.blocks.block_of.Given as goal

abbrev pub invariant-loop-i : goal.invariant-loop-i
invariant-loop-i l = (flag : Flag) (j : ℕ) (s : Slot) → l.first ≤ j → j < l.i → slice_get l.table.items j ≡ Some s → has flag l.block ≡ false → is_so flag s ≡ false
