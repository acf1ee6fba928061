use Rattle.std.proofs.Common.{◌≡◌, ◌++◌, rules, sym, subst, arith}
use Rattle.std.specs.Prelude.{codes}
use Rattle.std.specs.Fmt.{signed_decimal}
use Rattle.muf_debug.specs.inner.Printing.{AreInside}
use Rattle.muf_debug.proofs.Inside.{object_inside}
use Rattle.muf_debug.proofs.printing.print_object.Goals as goal

pub returns-clause-inside : goal.returns-clause-inside
returns-clause-inside c =
    let same : c.into_bytes.result.items ≡ codes "#" ++ signed_decimal c.args.n = search rules in
    subst AreInside (sym same) (object_inside c.args.n (omega (arith, c.ranges.n.sfits)))
