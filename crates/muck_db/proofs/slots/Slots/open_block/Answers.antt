use Rattle.std.proofs.Common.{subst, List, sym, ◌∙◌, ap, ◌++◌, ◌∷◌, []}
use Rattle.muck_db.specs.inner.Blocks.{IsCovered}
use Rattle.muck_db.specs.declared.blocks.Block.{Block}
use Rattle.muck_db.proofs.Blocked.{opened}
use Rattle.muck_db.proofs.slots.Slots.open_block.Goals as goal

pub invariant_of-self : goal.invariant_of-self
invariant_of-self c =
    let P : List Block → Type 0 = λ z. IsCovered c.self.inside.table.items z in
    (subst P (sym (c.in_ok-push.ensures.items ∙ ap (λ (b : Block). c.self.inside.blocks.items ++ b ∷ []) c.full.ensures)) (opened c.self.inside.table.items c.self.inside.blocks.items c.self.invariant.0), c.self.invariant.1, c.self.invariant.2)
