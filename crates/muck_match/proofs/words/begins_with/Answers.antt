use Rattle.std.proofs.Common.{sym}
use Rattle.muck_match.proofs.Texts.{short_begins}
use Rattle.muck_match.proofs.words.begins_with.Goals as goal

pub returns-then-text-front : goal.returns-then-text-front
returns-then-text-front c = sym (short_begins _ _ c.if-text-front.true)
