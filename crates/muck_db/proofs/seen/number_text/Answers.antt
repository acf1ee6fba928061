use Rattle.std.proofs.Common.{◌≡◌, rules, sym, subst, None, arith}
use Rattle.std.specs.Fmt.{signed_decimal}
use Rattle.muck_model.specs.Bytes.{text_fault}
use Rattle.muck_model.proofs.Texts.{number_is_text}
use Rattle.muck_db.proofs.seen.number_text.Goals as goal

pub returns-clause-text : goal.returns-clause-text
returns-clause-text c =
    let same : c.as_bytes.result.now ≡ signed_decimal c.args.number = search rules in
    subst (λ bs. text_fault bs ≡ None) (sym same) (number_is_text c.args.number (omega (arith, c.ranges.number.sfits)))
