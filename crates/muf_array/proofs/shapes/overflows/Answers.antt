use Rattle.std.proofs.Common.{rules, arith, ◌≡◌, ◌<◌, ◌+◌, true}
use Rattle.std.specs.Prelude.{nat_lt}
use Rattle.std.proofs.lemmas.Bool.Decides.{nat_tests}
use Rattle.muf_model.specs.inner.View.{view}
use Rattle.muf_array.specs.inner.Shapes.{Spreads}
use Rattle.muf_array.proofs.Wide.{wide}
use Rattle.muf_array.proofs.shapes.overflows.Goals as goal

pub returns : goal.returns
returns c =
    let spread : Spreads c.args.prim = search (rules, c.spreads.ensures, c.if-not-spreads.false) in
    λ more.
    let test : nat_lt 1024 (c.count.result + c.len.result) ≡ true = more in
    let over : 1024 < c.count.result + c.len.result = grind (arith, nat_tests, test) in
    wide c.args.prim (view c.args.held.now) c.args.frame.now.stack spread c.requires (omega (arith, c.len.ensures.value, c.len.ensures.most)) (omega (arith, over, c.count.ensures.value, c.len.ensures.value))
