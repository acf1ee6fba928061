use Rattle.std.proofs.Common.{sym, ◌∙◌, arith}
use Rattle.muck_db.proofs.Tellings.{marked_some, marked_none}
use Rattle.muck_db.proofs.Passing.{unmarked_on, unmarked_next}
use Rattle.muck_db.proofs.telling.marked.Goals as goal

pub loop-k-init : goal.loop-k-init
loop-k-init c = unmarked_on c.args.slots.now.items c.args.told c.next_flagged-k.result c.requires.unmarked c.next_flagged-k.ensures.lacks

pub loop-k-smaller : goal.loop-k-smaller
loop-k-smaller c = omega (arith, c.loop-k-test.true, c.next_flagged-k-in-loop-k.ensures.later)

pub loop-k-preserved : goal.loop-k-preserved
loop-k-preserved c = unmarked_next c.args.slots.now.items c.loop-k.k c.next_flagged-k-in-loop-k.result c.loop-k.invariant (sym c.mark_of.ensures ∙ c.in_default.is) c.next_flagged-k-in-loop-k.ensures.lacks

pub returns-in-Some-clause-is : goal.returns-in-Some-clause-is
returns-in-Some-clause-is c = sym (marked_some c.args.slots.now.items c.loop-k.k c.in-Some.mark c.loop-k.invariant (sym c.mark_of.ensures ∙ c.in-Some.is))

pub returns-clause-is : goal.returns-clause-is
returns-clause-is c = sym (marked_none c.args.slots.now.items (λ j lt. c.loop-k.invariant j (omega (arith, lt, c.len-n.ensures, c.loop-k-test.false))))

pub returns-clause-none : goal.returns-clause-none
returns-clause-none c = λ j lt. c.loop-k.invariant j (omega (arith, lt, c.len-n.ensures, c.loop-k-test.false))
