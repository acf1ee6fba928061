use Rattle.std.proofs.Common.{arith, refl}
use Rattle.spec_live.proofs.Chains.{ends_within}
use Rattle.muck_db.proofs.Exiting.{wipes_none, wipes_more, wipes_all, wipes_shorter, below_wiped}
use Rattle.muck_db.proofs.recycling.wipe_exits.Goals as goal

pub loop-at-init : goal.loop-at-init
loop-at-init c = record { wipes = wipes_none c.args.d c.args.slots.now.items _ c.first_of-at.ensures c.requires.exits; most = omega arith; below = λ k lt. refl; tied = c.requires.tied }

pub next_of-at-requires : goal.next_of-at-requires
next_of-at-requires c = ends_within _ _ _ _ c.in-Some.is c.loop-at.invariant.wipes.ends

pub wipe_exit-requires-clause-known : goal.wipe_exit-requires-clause-known
wipe_exit-requires-clause-known c = ends_within _ _ _ _ c.in-Some.is c.loop-at.invariant.wipes.ends

pub loop-at-smaller : goal.loop-at-smaller
loop-at-smaller c = wipes_shorter c.args.d c.in-Some.k _ _ _ _ _ c.in-Some.is c.next_of-at.ensures c.wipe_exit.ensures.items c.loop-at.invariant.wipes

pub loop-at-preserved : goal.loop-at-preserved
loop-at-preserved c = record {
  wipes = wipes_more c.args.d c.in-Some.k _ _ _ _ _ c.in-Some.is c.next_of-at.ensures c.wipe_exit.ensures.items c.loop-at.invariant.wipes;
  most = omega (arith, c.loop-at.invariant.most, c.min-least.ensures);
  below = λ k lt. below_wiped c.args.d c.in-Some.k k _ _ _ c.wipe_exit.ensures.items (omega (arith, lt, c.min-least.ensures)) (c.loop-at.invariant.below k (omega (arith, lt, c.min-least.ensures)));
  tied = c.wipe_exit.ensures.tied;
}

pub returns-clause-items : goal.returns-clause-items
returns-clause-items c = wipes_all c.args.d _ _ _ c.in_default.is c.loop-at.invariant.wipes
