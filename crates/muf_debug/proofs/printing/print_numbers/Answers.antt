use Rattle.std.proofs.Common.{◌≡◌, rules, sym, subst, arith}
use Rattle.muf_debug.specs.Printed.{numbers_text}
use Rattle.muf_debug.specs.inner.Printing.{AreInside}
use Rattle.muf_debug.proofs.Inside.{numbers_inside}
use Rattle.muf_debug.proofs.printing.print_numbers.Goals as goal

pub returns-clause-inside : goal.returns-clause-inside
returns-clause-inside c =
    let same : c.into_bytes.result.items ≡ numbers_text c.args.pid c.args.program c.args.line c.args.depth = search rules in
    subst AreInside (sym same) (numbers_inside c.args.pid c.args.program c.args.line c.args.depth (omega (arith, c.ranges.pid.sfits)) (omega (arith, c.ranges.program.sfits)) (omega (arith, c.ranges.line.fits)) (omega (arith, c.ranges.depth.fits)))
