use Rattle.std.proofs.Common.{sym, ◌∙◌, arith, ap, Option, ℕ, subst, ◌<◌}
use Rattle.std.specs.Prelude.{IfSome}
use Rattle.muck_match.specs.Scenery.{chain}
use Rattle.muck_db.specs.inner.Slots.{entries_of}
use Rattle.muck_db.specs.inner.Shown.{after_in, dbref_at}
use Rattle.muck_db.proofs.Readers.{length-entries_of}
use Rattle.muck_db.proofs.Showing.{after_chain, after_nothing, after_placeless, next_is, next_nothing, next_placeless, next_small}
use Rattle.muck_db.proofs.walks.next_listed.Goals as goal

pub dbref_at-requires : goal.dbref_at-requires
dbref_at-requires c =
    let P : Option ℕ → Type 0 = λ o. IfSome o (λ k. k < 2147483648) in
    subst P (sym c.next_of.ensures) (next_small c.args.slots.now.items c.requires c.in-Some.k _ (sym c.place_of.ensures ∙ c.in-Some-place_of.is) (omega (arith, length-entries_of c.args.slots.now.items, c.requires.ordered.few)))

pub returns-in_default-clause-after : goal.returns-in_default-clause-after
returns-in_default-clause-after c = after_nothing (entries_of c.args.slots.now.items) c.args.d (sym c.number_of.ensures.value ∙ c.in_default.is)

pub returns-in_default-clause-next : goal.returns-in_default-clause-next
returns-in_default-clause-next c = sym (next_nothing (entries_of c.args.slots.now.items) c.args.d (sym c.number_of.ensures.value ∙ c.in_default.is))

pub returns-in-Some-place_of-clause-after : goal.returns-in-Some-place_of-clause-after
returns-in-Some-place_of-clause-after c =
    after_chain c.args.slots.now.items c.requires c.args.d c.in-Some.k _ (sym c.number_of.ensures.value ∙ c.in-Some.is) (sym c.place_of.ensures ∙ c.in-Some-place_of.is)
    ∙ ap (λ z. chain (after_in (entries_of c.args.slots.now.items)) z) (sym (c.dbref_at.ensures ∙ ap (λ o. dbref_at o) c.next_of.ensures))

pub returns-in-Some-place_of-clause-next : goal.returns-in-Some-place_of-clause-next
returns-in-Some-place_of-clause-next c =
    c.dbref_at.ensures ∙ ap (λ o. dbref_at o) c.next_of.ensures
    ∙ sym (next_is c.args.slots.now.items c.requires c.args.d c.in-Some.k _ (sym c.number_of.ensures.value ∙ c.in-Some.is) (sym c.place_of.ensures ∙ c.in-Some-place_of.is))

pub returns-in-None-clause-after : goal.returns-in-None-clause-after
returns-in-None-clause-after c = after_placeless c.args.slots.now.items c.args.d c.in-Some.k (sym c.number_of.ensures.value ∙ c.in-Some.is) (sym c.place_of.ensures ∙ c.in-None.is)

pub returns-in-None-clause-next : goal.returns-in-None-clause-next
returns-in-None-clause-next c = sym (next_placeless c.args.slots.now.items c.args.d c.in-Some.k (sym c.number_of.ensures.value ∙ c.in-Some.is) (sym c.place_of.ensures ∙ c.in-None.is))
