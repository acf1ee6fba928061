use Rattle.std.proofs.Common.{◌+◌, ◌∙◌, ap, arith}
use Rattle.muck_db.specs.inner.Dumps.{saving_after}
use Rattle.muck_db.specs.inner.Slots.{with_saving}
use Rattle.muck_db.specs.inner.Table.{Table}
use Rattle.muck_db.proofs.Writes.{passed_none, passed_more, passed_all}
use Rattle.muck_db.proofs.Passing.{passed_by}
use Rattle.muck_db.proofs.marking.pass.Goals as goal

pub loop-k-init : goal.loop-k-init
loop-k-init c =
    passed_by c.args.moment 0 c.next_flagged-k.result c.args.slots.now.items c.args.slots.now.items (omega arith) c.next_flagged-k.ensures.lacks (passed_none (with_saving (saving_after c.args.moment)) c.args.slots.now.items)

pub pass_at-requires : goal.pass_at-requires
pass_at-requires c = omega (arith, c.len-n.ensures, c.loop-k-test.true, c.loop-k.invariant.same_length)

pub leave-requires : goal.leave-requires
leave-requires c = omega (arith, c.len-n.ensures, c.loop-k-test.true, c.requires)

pub loop-k-smaller : goal.loop-k-smaller
loop-k-smaller c = omega (arith, c.loop-k-test.true, c.next_flagged-k-in-loop-k.ensures.later)

pub loop-k-preserved : goal.loop-k-preserved
loop-k-preserved c =
    passed_by c.args.moment (c.loop-k.k + 1) c.next_flagged-k-in-loop-k.result c.args.slots.now.items c.leave.new.self.items c.next_flagged-k-in-loop-k.ensures.later c.next_flagged-k-in-loop-k.ensures.lacks
    (passed_more (with_saving (saving_after c.args.moment)) c.loop-k.k c.args.slots.now.items c.loop-k.slots.items c.leave.new.self.items (ap (λ (t : Table). t.items) c.leave.ensures ∙ c.pass_at.ensures.items) c.loop-k.invariant)

pub returns : goal.returns
returns c = passed_all (with_saving (saving_after c.args.moment)) c.loop-k.k _ _ (omega (arith, c.len-n.ensures, c.loop-k-test.false)) c.loop-k.invariant
