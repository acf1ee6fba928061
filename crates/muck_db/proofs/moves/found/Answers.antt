use Rattle.std.proofs.Common.{sym, ◌∙◌}
use Rattle.muck_db.proofs.Bridge.{seen_none, seen_some}
use Rattle.muck_db.proofs.Readers.{object_in-entries_of}
use Rattle.muck_db.proofs.Writes.{alive_kept}
use Rattle.muck_db.proofs.moves.found.Goals as goal

pub returns-in-None : goal.returns-in-None
returns-in-None c = sym (seen_none _ _ (sym c.number_of.ensures.value ∙ c.in-None.is))

pub returns-in-Some : goal.returns-in-Some
returns-in-Some c = c.object_of.ensures ∙ sym (alive_kept _ _ c.in-Some.ensures.alive) ∙ sym (object_in-entries_of _ _) ∙ sym (seen_some _ _ _ (sym c.number_of.ensures.value ∙ c.in-Some.is))
