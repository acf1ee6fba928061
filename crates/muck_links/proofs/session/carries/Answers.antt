use Rattle.std.proofs.Common.{arith}
use Rattle.muck_links.proofs.Places.{changed_where, changed_nowhere}
use Rattle.muck_links.proofs.session.carries.Goals as goal

pub returns-in_ok-carry-clause-ok : goal.returns-in_ok-carry-clause-ok
returns-in_ok-carry-clause-ok c = changed_where _ _ _ _ _ _ c.place_of-at.ensures.at (omega arith) c.index_mut-s.ensures.value c.in_ok-carry.ensures.ok

pub returns-else-at-len-clause-ok : goal.returns-else-at-len-clause-ok
returns-else-at-len-clause-ok c = changed_nowhere _ _ _ _ c.place_of-at.ensures.at (omega arith)
