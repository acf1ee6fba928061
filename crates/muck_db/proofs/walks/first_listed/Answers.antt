use Rattle.std.proofs.Common.{sym, ◌∙◌, arith, ap, Option, ℕ, subst, length, ◌<◌}
use Rattle.std.specs.Prelude.{IfSome}
use Rattle.muck_match.specs.Scenery.{chain}
use Rattle.muck_db.specs.inner.Slots.{first_at, entries_of}
use Rattle.muck_db.specs.inner.Shown.{after_in, dbref_at}
use Rattle.muck_db.proofs.Readers.{length-entries_of}
use Rattle.muck_db.proofs.Showing.{listed_chain, listed_nothing, first_is, first_nothing, locks_chain, small}
use Rattle.muck_db.proofs.walks.first_listed.Goals as goal

pub dbref_at-requires : goal.dbref_at-requires
dbref_at-requires c =
    let P : Option ℕ → Type 0 = λ o. IfSome o (λ k. k < 2147483648) in
    subst P (sym c.first_of.ensures) (small (length c.args.slots.now.items) _ _ (omega (arith, length-entries_of c.args.slots.now.items, c.requires.ordered.few)) (c.requires.ends c.args.exits c.in-Some.k))

pub returns-in-Some-clause-listed : goal.returns-in-Some-clause-listed
returns-in-Some-clause-listed c =
    listed_chain c.args.slots.now.items c.requires c.args.exits c.args.d c.in-Some.k (sym c.number_of.ensures.value ∙ c.in-Some.is)
    ∙ ap (λ z. chain (after_in (entries_of c.args.slots.now.items)) z) (sym (c.dbref_at.ensures ∙ ap (λ o. dbref_at o) c.first_of.ensures))

pub returns-in-Some-clause-first : goal.returns-in-Some-clause-first
returns-in-Some-clause-first c = λ contents.
    c.dbref_at.ensures ∙ ap (λ o. dbref_at o) (c.first_of.ensures ∙ ap (λ b. first_at b c.args.slots.now.items c.in-Some.k) contents)
    ∙ sym (first_is c.args.slots.now.items c.requires c.args.d c.in-Some.k (sym c.number_of.ensures.value ∙ c.in-Some.is))

pub returns-in-None-clause-listed : goal.returns-in-None-clause-listed
returns-in-None-clause-listed c = listed_nothing (entries_of c.args.slots.now.items) c.args.exits c.args.d (sym c.number_of.ensures.value ∙ c.in-None.is)

pub returns-in-None-clause-first : goal.returns-in-None-clause-first
returns-in-None-clause-first c = λ contents. sym (first_nothing (entries_of c.args.slots.now.items) c.args.d (sym c.number_of.ensures.value ∙ c.in-None.is))

pub returns-in-Some-clause-chained : goal.returns-in-Some-clause-chained
returns-in-Some-clause-chained c = locks_chain c.args.slots.now.items c.requires c.args.d

pub returns-in-None-clause-chained : goal.returns-in-None-clause-chained
returns-in-None-clause-chained c = locks_chain c.args.slots.now.items c.requires c.args.d
