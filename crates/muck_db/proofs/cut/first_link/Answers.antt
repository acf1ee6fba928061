use Rattle.std.proofs.Common.{sym, ◌∙◌, arith, ap, Option, ℕ, subst, length, ◌<◌}
use Rattle.std.specs.Prelude.{IfSome}
use Rattle.muck_db.specs.inner.Shown.{dbref_at}
use Rattle.muck_db.proofs.Readers.{length-entries_of}
use Rattle.muck_db.proofs.Showing.{small}
use Rattle.muck_db.proofs.Cutting.{first_stored}
use Rattle.muck_db.proofs.cut.first_link.Goals as goal

pub dbref_at-requires : goal.dbref_at-requires
dbref_at-requires c =
    let P : Option ℕ → Type 0 = λ o. IfSome o (λ k. k < 2147483648) in
    subst P (sym c.first_of.ensures) (small (length c.args.slots.now.items) _ _ (omega (arith, length-entries_of c.args.slots.now.items, c.requires.order.ordered.few)) (c.requires.order.ends c.args.exits c.args.k))

pub returns : goal.returns
returns c = c.dbref_at.ensures ∙ ap (λ o. dbref_at o) c.first_of.ensures ∙ sym (first_stored c.args.slots.now.items c.requires.order c.args.exits c.args.k)
