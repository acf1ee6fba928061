use Rattle.std.proofs.Common.{◌∙◌, arith}
use Rattle.prim_text.proofs.Counted.{amount_past}
use Rattle.prim_text.proofs.numbers.amount.Goals as goal

pub returns-then-n-most-clause-value : goal.returns-then-n-most-clause-value
returns-then-n-most-clause-value c = amount_past _ _ _ _ c.loop-b-test.true (omega arith) (omega arith) (omega arith) ∙ c.loop-b.invariant.0
