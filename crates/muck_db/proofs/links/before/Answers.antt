use Rattle.std.proofs.Common.{sym, ◌∙◌, ap, Some}
use Rattle.muck_laws.proofs.Found.{leads_false, leads_true}
use Rattle.spec_live.proofs.Chains.{ends_within, ends_next, walk_shorter, member_next, member_later, member_here, member_none}
use Rattle.muck_db.proofs.links.before.Goals as goal

pub next_of-next-requires : goal.next_of-next-requires
next_of-next-requires c = ends_within _ _ _ _ c.in-Some.is c.loop-at.invariant.ends

pub returns-then-eq-clause-leads : goal.returns-then-eq-clause-leads
returns-then-eq-clause-leads c = sym c.next_of-next.ensures ∙ leads_true _ _ (sym c.eq.ensures ∙ c.if-eq.true)

pub returns-then-eq-clause-inside : goal.returns-then-eq-clause-inside
returns-then-eq-clause-inside c = c.loop-at.invariant.within _ (member_here _ _ _ _ c.in-Some.is c.loop-at.invariant.ends)

pub loop-at-smaller : goal.loop-at-smaller
loop-at-smaller c = walk_shorter _ _ _ _ _ c.in-Some.is c.next_of-next.ensures c.loop-at.invariant.ends

pub loop-at-preserved : goal.loop-at-preserved
loop-at-preserved c = record {
  ends = ends_next _ _ _ _ _ c.in-Some.is c.next_of-next.ensures c.loop-at.invariant.ends;
  later = leads_false _ _ (sym c.eq.ensures ∙ c.if-eq.false);
  ahead = member_later _ _ _ _ _ _ c.in-Some.is c.next_of-next.ensures c.loop-at.invariant.ends (λ e. c.loop-at.invariant.later (c.in-Some.is ∙ ap (λ z. Some z) e)) c.loop-at.invariant.ahead;
  within = λ y m. c.loop-at.invariant.within y (member_next _ _ _ _ _ y c.in-Some.is c.next_of-next.ensures c.loop-at.invariant.ends m);
}

pub unreachable-requires : goal.unreachable-requires
unreachable-requires c = member_none _ _ _ _ c.in_default.is c.loop-at.invariant.ahead
