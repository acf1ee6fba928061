use Rattle.std.proofs.Common.{sym, ◌∙◌}
use Rattle.std.proofs.lemmas.Slice.Eq.{bytes_eq-Decides, slice_eq-Decides}
use Rattle.muck_db.proofs.kept.same_lines.Goals as goal

pub returns : goal.returns
returns c = λ same. sym c.as_slice.ensures ∙ (slice_eq-Decides bytes_eq-Decides _ _ _ c.eq.ensures).0 same ∙ c.as_slice-2.ensures
