use Rattle.std.proofs.Common.{◌++◌, sym, ◌∙◌, ap, subst}
use Rattle.muck_looking.specs.inner.Inside.{AreInside}
use Rattle.muck_looking.proofs.Inside.{inside_both}
use Rattle.muck_looking.proofs.lines.headed.Goals as goal

pub line-requires : goal.line-requires
line-requires c =
    let is = c.deref.ensures.value ∙ c.in_ok-extend_from_slice.ensures.items ∙ ap (λ l. l ++ c.args.text.now) c.in_ok-bytes.ensures.items in
    subst AreInside (sym is) (inside_both c.args.head.now c.args.text.now c.requires.head c.requires.text)
