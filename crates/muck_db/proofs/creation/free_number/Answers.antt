use Rattle.std.proofs.Common.{sym, ◌∙◌, arith}
use Rattle.muck_db.proofs.Creating.{free_at}
use Rattle.muck_db.proofs.Passing.{full_on, full_next}
use Rattle.muck_db.proofs.creation.free_number.Goals as goal

pub loop-k-init : goal.loop-k-init
loop-k-init c = full_on c.args.slots.now.items c.args.lowest c.next_flagged-k.result (λ k lt there. c.requires.full k lt) c.next_flagged-k.ensures.lacks

pub loop-k-smaller : goal.loop-k-smaller
loop-k-smaller c = omega (arith, c.loop-k-test.true, c.next_flagged-k-in-loop-k.ensures.later)

pub loop-k-preserved : goal.loop-k-preserved
loop-k-preserved c = full_next c.args.slots.now.items c.loop-k.k c.next_flagged-k-in-loop-k.result c.loop-k.invariant (sym c.is_free.ensures ∙ c.if-is_free.false) c.next_flagged-k-in-loop-k.ensures.lacks

pub returns-then-is_free : goal.returns-then-is_free
returns-then-is_free c =
    free_at c.args.slots.now.items c.loop-k.k (omega (arith, c.loop-k-test.true, c.len-n.ensures)) (λ k lt. c.loop-k.invariant k lt (omega (arith, lt, c.loop-k-test.true, c.len-n.ensures)))
    (λ lt. sym c.is_free.ensures ∙ c.if-is_free.true)

pub returns : goal.returns
returns c =
    free_at c.args.slots.now.items _ (omega (arith, c.len-n.ensures)) (λ k lt. c.loop-k.invariant k (omega (arith, lt, c.loop-k-test.false)) (omega (arith, lt, c.len-n.ensures)))
    (λ lt. absurd (omega (arith, lt, c.len-n.ensures)))
