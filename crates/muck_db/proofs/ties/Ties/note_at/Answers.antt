use Rattle.std.proofs.Common.{arith}
use Rattle.muck_db.proofs.Tying.{noted_kept, noted_here, noted_past}
use Rattle.muck_db.proofs.ties.Ties.note_at.Goals as goal

pub returns-then-d-len-clause-others : goal.returns-then-d-len-clause-others
returns-then-d-len-clause-others c = λ e j h. noted_kept _ c.args.d e j c.index_mut.result.now c.note.new.self c.index_mut.ensures.value (c.note.ensures.others j) h

pub returns-then-d-len-clause-noted : goal.returns-then-d-len-clause-noted
returns-then-d-len-clause-noted c = noted_here _ c.args.d c.args.k c.note.new.self c.note.ensures.noted

pub returns-else-d-len-clause-noted : goal.returns-else-d-len-clause-noted
returns-else-d-len-clause-noted c = noted_past _ c.args.d c.args.k (omega (arith, c.if-d-len.false, c.len.ensures))
