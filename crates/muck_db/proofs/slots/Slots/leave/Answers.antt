use Rattle.std.proofs.Common.{subst, List, sym}
use Rattle.muck_db.specs.declared.blocks.Block.{Block}
use Rattle.muck_db.specs.inner.Blocks.{IsCovered}
use Rattle.muck_db.proofs.Blocked.{reviewed}
use Rattle.muck_db.proofs.slots.Slots.leave.Goals as goal

pub invariant_of-self : goal.invariant_of-self
invariant_of-self c =
    let P : List Block → Type 0 = λ z. IsCovered c.self.inside.table.items z in
    (subst P (sym c.put_block.ensures) (reviewed c.self.inside.table.items c.self.inside.blocks.items _ c.block_of-block.result c.block_of-block.ensures c.self.invariant.0), c.self.invariant.1, c.self.invariant.2)
