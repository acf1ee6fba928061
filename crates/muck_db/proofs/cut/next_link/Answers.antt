use Rattle.std.proofs.Common.{sym, ◌∙◌, arith, ap, Option, ℕ, subst, ◌<◌}
use Rattle.std.specs.Prelude.{IfSome}
use Rattle.muck_store.specs.Forms.{link_to_number}
use Rattle.muck_db.specs.inner.Slots.{next_at}
use Rattle.muck_db.specs.inner.Shown.{dbref_at}
use Rattle.muck_db.proofs.Readers.{length-entries_of}
use Rattle.muck_db.proofs.Showing.{next_small}
use Rattle.muck_db.proofs.Cutting.{linked, next_stored, next_unplaced}
use Rattle.muck_db.proofs.cut.next_link.Goals as goal

pub dbref_at-requires : goal.dbref_at-requires
dbref_at-requires c =
    let P : Option ℕ → Type 0 = λ o. IfSome o (λ k. k < 2147483648) in
    subst P (sym c.next_of.ensures) (next_small c.args.slots.now.items c.requires.order c.args.k _ (sym c.place_of.ensures ∙ c.in-Some.is) (omega (arith, length-entries_of c.args.slots.now.items, c.requires.order.ordered.few)))

pub returns-in-Some : goal.returns-in-Some
returns-in-Some c =
    c.dbref_at.ensures ∙ ap (λ o. dbref_at o) c.next_of.ensures
    ∙ linked (next_at c.args.slots.now.items c.args.k)
    ∙ ap (λ (o : Option ℕ). link_to_number o) (sym (next_stored c.args.slots.now.items c.requires.order c.args.k _ (sym c.place_of.ensures ∙ c.in-Some.is)))

pub returns-in-None : goal.returns-in-None
returns-in-None c =
    c.dbref_at-in-None.ensures
    ∙ ap (λ (o : Option ℕ). link_to_number o) (sym (next_unplaced c.args.slots.now.items c.args.k (sym c.place_of.ensures ∙ c.in-None.is)))
