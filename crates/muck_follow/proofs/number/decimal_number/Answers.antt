use Rattle.std.proofs.Common.{sym, ◌∙◌, arith}
use Rattle.muck_model.proofs.Decimals.{decimal_not, above_here, whole_here}
use Rattle.muck_follow.proofs.number.decimal_number.Goals as goal

pub returns-then-not-is_decimal : goal.returns-then-not-is_decimal
returns-then-not-is_decimal c = sym (decimal_not _ _ (sym c.is_decimal.ensures ∙ c.if-not-is_decimal.true))

pub returns-then-n : goal.returns-then-n
returns-then-n c = above_here _ _ _ _ (sym c.is_decimal.ensures ∙ c.if-not-is_decimal.false) c.loop-b.invariant.0 c.loop-b-test.true (omega arith)

pub returns : goal.returns
returns c = whole_here _ _ c.loop-b.b-index _ (sym c.is_decimal.ensures ∙ c.if-not-is_decimal.false) c.loop-b.invariant.0 (omega arith) c.loop-b.invariant.1
