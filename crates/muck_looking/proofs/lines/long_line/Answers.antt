use Rattle.std.proofs.Common.{◌≡◌, None, sym, ◌∙◌, subst, arith}
use Rattle.muck_model.specs.Bytes.{text_fault}
use Rattle.muck_looking.specs.inner.Inside.{AreInside}
use Rattle.muck_looking.proofs.Inside.{inside_form}
use Rattle.muck_looking.proofs.lines.long_line.Goals as goal

pub line-requires : goal.line-requires
line-requires c =
    let name = subst (λ l. text_fault l ≡ None) (c.as_slice-name.ensures.bytes ∙ c.name.ensures) c.as_slice-name.ensures.text in
    subst AreInside (sym (c.deref.ensures.value ∙ c.in_ok-text.ensures)) (inside_form c.args.n c.args.object.now (omega (arith, c.ranges.n.fits)) (omega (arith, c.requires)) name)
