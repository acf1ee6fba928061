use Rattle.std.proofs.Common.{sym, subst}
use Rattle.muck_db.specs.inner.Table.{Table}
use Rattle.muck_db.specs.inner.Moves.{AreNoted, NoneMoved}
use Rattle.muck_db.specs.declared.stood.Moves.{Moves}
use Rattle.muck_db.proofs.Moved.{noted_rest}
use Rattle.muck_db.proofs.slots.Slots.all_rest.Goals as goal

pub invariant_of-self : goal.invariant_of-self
invariant_of-self c =
    let N : Moves → Type 0 = λ m. AreNoted m c.self.inside.table.items in
    let R : Table → Type 0 = λ t. NoneMoved t.items in
    (c.self.invariant.0, subst N (sym c.none_moved-self-inside.ensures) (noted_rest c.self.inside.table.items (subst R (sym c.self.view_is) c.requires)), c.self.invariant.2)
