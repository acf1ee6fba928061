use Rattle.std.proofs.Common.{sym, ◌∙◌, ap, Some}
use Rattle.muck_db.specs.inner.Slots.{path_at}
use Rattle.spec_live.proofs.Lists.{has_true, has_false}
use Rattle.spec_live.proofs.Chains.{ends_within, ends_next, walk_shorter, member_next, member_later, member_here, member_none}
use Rattle.muck_db.proofs.links.leads_to.Goals as goal

pub returns-then-i-d : goal.returns-then-i-d
unfolding path_at
returns-then-i-d c = sym (has_true _ _ (c.loop-at.invariant.within (member_here _ _ _ _ (c.in-Some.is ∙ ap (λ z. Some z) c.if-i-d.true) c.loop-at.invariant.ends)))

pub place_of-at-requires : goal.place_of-at-requires
place_of-at-requires c = ends_within _ _ _ _ c.in-Some.is c.loop-at.invariant.ends

pub loop-at-smaller : goal.loop-at-smaller
loop-at-smaller c = walk_shorter _ _ _ _ _ c.in-Some.is c.place_of-at.ensures c.loop-at.invariant.ends

pub loop-at-preserved : goal.loop-at-preserved
loop-at-preserved c = record {
  ends = ends_next _ _ _ _ _ c.in-Some.is c.place_of-at.ensures c.loop-at.invariant.ends;
  ahead = λ m. member_later _ _ _ _ _ _ c.in-Some.is c.place_of-at.ensures c.loop-at.invariant.ends c.if-i-d.false (c.loop-at.invariant.ahead m);
  within = λ m. c.loop-at.invariant.within (member_next _ _ _ _ _ _ c.in-Some.is c.place_of-at.ensures c.loop-at.invariant.ends m);
}

pub returns : goal.returns
unfolding path_at
returns c = sym (has_false _ _ (λ m. member_none _ _ _ _ c.in_default.is (c.loop-at.invariant.ahead m)))
