use Rattle.muck_db.proofs.Tying.{zero_never}
use Rattle.muck_db.proofs.ties.Ties.note.Goals as goal

pub returns-else-d-gt0-clause-noted : goal.returns-else-d-gt0-clause-noted
returns-else-d-gt0-clause-noted c = λ e low is. absurd (zero_never c.in-Some.d e _ c.if-d-gt0.false c.in-Some.is low is)
