use Rattle.std.proofs.Common.{◌≡◌, false, length}
use Rattle.std.specs.List.{list_any}
use Rattle.spec_live.specs.Seen.{listed_in}
use Rattle.muck_db.specs.inner.Hearing.{listens}
use Rattle.muck_db.proofs.db.Db.any_listens.Given as goal

-- what is left has one that listens, where the whole has one
abbrev pub invariant-loop-d : goal.invariant-loop-d
invariant-loop-d l = list_any (listens l.self) l.left ≡ list_any (listens l.self) (listed_in false l.fn.place l.self)

abbrev pub decreases-loop-d : goal.decreases-loop-d
decreases-loop-d l = length l.left
