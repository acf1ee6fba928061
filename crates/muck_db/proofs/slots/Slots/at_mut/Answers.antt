use Rattle.std.proofs.Common.{refl, sym, ◌∙◌, subst, List, length, ◌<◌}
use Rattle.std.specs.List.{slice_set}
use Rattle.muck_db.specs.inner.Blocks.{IsCovered, full}
use Rattle.std.proofs.lemmas.Option.{slice_get_read}
use Rattle.muck_db.specs.inner.Table.{Table}
use Rattle.muck_db.proofs.Blocked.{written}
use Rattle.muck_db.proofs.Moved.{noted_as}
use Rattle.muck_db.proofs.Heard.{heard_written}
use Rattle.muck_db.specs.declared.blocks.Block.{Block}
use Rattle.muck_db.proofs.slots.Slots.at_mut.Goals as goal

pub invariant_of-self-lent : goal.invariant_of-self-lent
invariant_of-self-lent c = λ w.
    let P : List Block → Type 0 = λ z. IsCovered (slice_set c.self.inside.table.items c.args.k w) z in (
      subst P (rw (c.put_block.ensures, c.full.ensures) refl) (written c.self.inside.table.items c.self.inside.blocks.items c.args.k w c.self.invariant.0),
      noted_as c.looked_at.result c.written-self-inside.result c.self.inside.table.items c.args.k w c.written-self-inside.ensures (c.looked_at.ensures c.self.invariant.1),
      heard_written _ c.self.inside.table.items c.args.k w c.write.ensures.last c.write.ensures.heard,
    )

pub returns : goal.returns
returns c =
    let P : Table → Type 0 = λ t. c.args.k < length t.items in
    let lt : c.args.k < length c.self.inside.table.items = subst P (sym c.self.view_is) c.requires in
    rw (← c.self.view_is) ((refl, λ w. refl), record { writes_back = tt; value = slice_get_read c.self.inside.table.items _ c.args.k _ refl lt c.index_mut.ensures.value })
