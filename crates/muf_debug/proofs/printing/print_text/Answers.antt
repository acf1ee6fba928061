use Rattle.std.proofs.Common.{◌≡◌, ◌++◌, rules, sym, subst, None}
use Rattle.std.specs.Prelude.{codes}
use Rattle.muck_model.specs.Bytes.{text_fault}
use Rattle.muf_debug.specs.inner.Printing.{AreInside}
use Rattle.muf_debug.proofs.Inside.{quoted_inside}
use Rattle.muf_debug.proofs.printing.print_text.Goals as goal

pub returns-clause-inside : goal.returns-clause-inside
returns-clause-inside c =
    let same : c.extend_from_slice-2.new.self.items ≡ codes "\"" ++ (c.args.text.now ++ codes "\"") = search rules in
    subst AreInside (sym same) (quoted_inside c.args.text.now (subst (λ t. text_fault t ≡ None) c.as_slice.ensures.bytes c.as_slice.ensures.text))
