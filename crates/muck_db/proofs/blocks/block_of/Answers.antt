use Rattle.std.proofs.Common.{◌≡◌, ◌+◌, ◌*◌, ◌/◌, Some, None, sym, subst, rules}
use Rattle.std.specs.List.{slice_get}
use Rattle.muck_db.specs.declared.blocks.Block.{Block}
use Rattle.muck_db.proofs.Blocked.{Seen, seen_slot, seen_none}
use Rattle.muck_db.proofs.blocks.block_of.Goals.{in-Some, in_default}
use Rattle.muck_db.proofs.blocks.block_of.Goals as goal

pub loop-i-preserved : goal.loop-i-preserved
loop-i-preserved c =
    let first = c.args.k / 16 * 16 in
    let i = c.loop-i.i in
    let table = c.args.table.now.items in
    let P : Block → Type 0 = λ b. Seen first (i + 1) table b in
    elim c.match-slot_at.branch [
      | in-Some w ↦
          let here : slice_get table i ≡ Some w.in-Some.slot.now = search rules in
          subst P (sym w.block-is) (seen_slot first i table w.in-Some.slot.now c.loop-i.block w.joined-block.result here w.joined-block.ensures c.loop-i.invariant)
      | in_default w ↦
          let none : slice_get table i ≡ None = search rules in
          subst P (sym w.block-is) (seen_none first i table c.loop-i.block none c.loop-i.invariant)
    ]
