use Rattle.std.proofs.Common.{◌≤◌, ◌∙◌, ap, length, arith}
use Rattle.std.proofs.lemmas.List.{length-take}
use Rattle.std.proofs.lemmas.List.Elements.{All-same}
use Rattle.muck_model.specs.Bytes.{text_most, lines_most}
use Rattle.muck_codec.specs.inner.Stored.{IsText}
use Rattle.muck_db.proofs.Spelled.{lines_spelled}
use Rattle.muck_db.proofs.cut.copy_lines.Goals as goal

pub returns-clause-storable : goal.returns-clause-storable
returns-clause-storable c =
    let few : length c.of.result ≤ lines_most =
    omega (arith, ap length (c.of.ensures ∙ c.loop-line.invariant.copied), length-take c.loop-line.line-index c.as_slice-line-items.result.now, ap length c.as_slice-line-items.ensures, c.requires.few) in
    lines_spelled c.of.result few (All-same (IsText 0 text_most) _ _ c.of.ensures c.loop-line.invariant.texts)
