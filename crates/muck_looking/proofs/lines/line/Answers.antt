use Rattle.std.proofs.Common.{◌≡◌, None, sym, subst}
use Rattle.muck_model.specs.Bytes.{text_fault}
use Rattle.muck_looking.proofs.Inside.{cut_text}
use Rattle.muck_looking.proofs.lines.line.Goals as goal

pub of_text-requires : goal.of_text-requires
of_text-requires c = subst (λ l. text_fault l ≡ None) (sym c.front.ensures) (cut_text c.args.bytes.now c.requires)
