use Rattle.std.proofs.Common.{sym, ◌∙◌}
use Rattle.muck_laws.proofs.Found.{leads_false, leads_true}
use Rattle.muck_db.specs.inner.Slots.{list_at}
use Rattle.muck_db.proofs.Linked.{member_below, unlinked_first, unlinked_later}
use Rattle.muck_db.proofs.links.unlink.Goals as goal

pub next_of-after-requires : goal.next_of-after-requires
next_of-after-requires c = member_below _ c.requires.chains _ _ _ c.requires.here

pub before-i-requires-clause-inside : goal.before-i-requires-clause-inside
unfolding list_at
before-i-requires-clause-inside c = rw c.first_of-first.ensures c.requires.here

pub set_next-requires : goal.set_next-requires
unfolding list_at
set_next-requires c = member_below _ c.requires.chains c.args.exits c.args.p c.before-i.result (rw (← c.first_of-first.ensures) c.before-i.ensures.inside)

pub returns-then-eq : goal.returns-then-eq
returns-then-eq c = rw (c.set_first.ensures.items, c.next_of-after.ensures) (unlinked_first _ _ _ _ c.requires.chains c.requires.here c.requires.place (sym c.first_of-first.ensures ∙ leads_true _ _ (sym c.eq.ensures ∙ c.if-eq.true)))

pub returns-else-eq : goal.returns-else-eq
unfolding list_at
returns-else-eq c = rw (c.set_next.ensures.items, c.next_of-after.ensures) (unlinked_later c.args.exits c.args.p c.args.d c.before-i.result c.args.slots.now.items c.requires.chains c.requires.here (rw (← c.first_of-first.ensures) c.before-i.ensures.inside) c.before-i.ensures.leads (λ e. leads_false _ _ (sym c.eq.ensures ∙ c.if-eq.false) (c.first_of-first.ensures ∙ e)))
