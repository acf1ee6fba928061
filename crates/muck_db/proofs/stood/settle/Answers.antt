use Rattle.std.proofs.Common.{ap, arith, ◌∙◌}
use Rattle.muck_db.specs.inner.Table.{Table}
use Rattle.muck_db.specs.inner.Moves.{rested}
use Rattle.muck_db.proofs.Writes.{passed_more}
use Rattle.muck_db.proofs.Moved.{rested_first, rested_last, none_left}
use Rattle.muck_db.proofs.stood.settle.Goals as goal

pub loop-k-init : goal.loop-k-init
loop-k-init c = rested_first _ _ c.args.slots.now.items c.moved_within-low.ensures.within

pub rest_at-requires : goal.rest_at-requires
rest_at-requires c = omega (arith, c.loop-k-test.true, c.moved_within-low.ensures.known, c.loop-k.invariant.same_length)

pub loop-k-preserved : goal.loop-k-preserved
loop-k-preserved c = passed_more rested c.loop-k.k c.args.slots.now.items c.loop-k.slots.items c.rest_at.new.slots.items c.rest_at.ensures.items c.loop-k.invariant

pub all_rest-requires : goal.all_rest-requires
all_rest-requires c = none_left _ _ (rested_last _ _ c.loop-k.k _ _ c.moved_within-low.ensures.within (omega (arith, c.loop-k-test.false)) c.loop-k.invariant)

pub returns : goal.returns
returns c = ap (λ (t : Table). t.items) c.all_rest.ensures ∙ rested_last _ _ c.loop-k.k _ _ c.moved_within-low.ensures.within (omega (arith, c.loop-k-test.false)) c.loop-k.invariant
