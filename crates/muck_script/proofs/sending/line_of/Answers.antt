use Rattle.std.proofs.Common.{sym, ◌∙◌, ap, Some}
use Rattle.muck_script.proofs.Texts.{plain_text, plain_line}
use Rattle.muck_script.proofs.sending.line_of.Goals as goal

pub of_text-requires : goal.of_text-requires
of_text-requires c = plain_text c.args.text.now (sym c.is_plain.ensures ∙ c.if-is_plain.true)

pub returns-then-is_plain : goal.returns-then-is_plain
returns-then-is_plain c = ap Some c.in_ok-of_text.ensures ∙ sym (plain_line c.args.text.now (sym c.is_plain.ensures ∙ c.if-is_plain.true))
