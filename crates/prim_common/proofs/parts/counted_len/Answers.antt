use Rattle.std.proofs.Common.{length, arith}
use Rattle.muck_laws.proofs.Numbers.{product_most}
use Rattle.prim_common.proofs.parts.counted_len.Goals as goal

pub overflow_mul-result : goal.overflow_mul-result
overflow_mul-result c = omega (arith, product_most c.args.parts.count (length c.args.parts.each.now) (omega arith) (omega arith))
