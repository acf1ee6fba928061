use Rattle.std.proofs.Common.{rules, arith, ◌<◌, ◌-◌, length}
use Rattle.muf_model.specs.Texts.{text_pieces}
use Rattle.prim_text.proofs.Wide.{wide}
use Rattle.prim_text.proofs.shapes.overflows.Goals as goal

pub returns-in-Explode : goal.returns-in-Explode
returns-in-Explode c =
    let some : 0 < length c.args.sought.now = search (rules, c.is_empty.ensures, c.if-is_empty.false, c.if-is_empty.ensures) in
    λ more.
    let over : 1025 - c.len.result < length (text_pieces c.args.sought.now c.args.bytes.now) = c.has_more_pieces.ensures more in
    rw c.in-Explode.is (wide c.args.bytes.now c.args.sought.now c.args.frame.now.stack some c.requires (omega (arith, c.len.ensures.value, c.len.ensures.most)) (omega (arith, over, c.len.ensures.value, c.len.ensures.most)))
