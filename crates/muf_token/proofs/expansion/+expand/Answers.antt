use Rattle.std.proofs.Common.{sym, ◌∙◌}
use Rattle.muf_token.proofs.Expansions.{leads_by, expanded_text, expanded_plain}
use Rattle.muf_token.proofs.expansion.+expand.Goals as goal

pub returns-in-Text : goal.returns-in-Text
returns-in-Text t c = leads_by _ _ c.put.result c.put.new.self (rw (c.in-Text.is, c.in_ok-copy-in-Text.ensures) (expanded_text _ _ _ _ _)) c.put.ensures

pub returns-in_default : goal.returns-in_default
returns-in_default t c =
    leads_by _ _ c.put-in_default.result c.put-in_default.new.self
    (rw (c.in-Word.is, c.in_ok-kind_of.ensures) (expanded_plain _ _ _ _ _ (sym c.is_directive.ensures ∙ c.if-is_directive.false) (sym c.in_default.ensures))) c.put-in_default.ensures
