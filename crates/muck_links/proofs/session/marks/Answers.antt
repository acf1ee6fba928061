use Rattle.std.proofs.Common.{arith}
use Rattle.muck_links.proofs.Places.{changed_where, changed_nowhere}
use Rattle.muck_links.proofs.session.marks.Goals as goal

pub returns-then-at-len : goal.returns-then-at-len
returns-then-at-len c = changed_where _ _ _ _ _ _ c.place_of-at.ensures.at (omega arith) c.index_mut-s.ensures.value c.mark.ensures

pub returns-else-at-len : goal.returns-else-at-len
returns-else-at-len c = changed_nowhere _ _ _ _ c.place_of-at.ensures.at (omega arith)
