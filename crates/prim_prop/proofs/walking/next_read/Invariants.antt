use Rattle.std.proofs.Common.{◌≡◌}
use Rattle.muck_prop.specs.Store.{path_or_top as path_or_root}
use Rattle.muck_perm.specs.inner.Guards.{world_of}
use Rattle.spec_prims.specs.PropRows.{may_read, next_read}
use Rattle.prim_prop.specs.inner.Walks.{begun}
use Rattle.prim_prop.proofs.Walks.{left, next_kept}
use Rattle.prim_prop.proofs.walking.next_read.Given as goal

-- those that were passed over may not be read
abbrev pub invariant-search : goal.invariant-search
invariant-search l =
    next_read l.fn.guard.actor l.fn.object (begun l.fn.start) (world_of l.fn.guard)
    ≡ next_kept (may_read l.fn.guard.actor l.fn.object (world_of l.fn.guard)) (path_or_root l.directory) l.after l.held.props

abbrev pub decreases-search : goal.decreases-search
decreases-search l = left (path_or_root l.directory) l.after l.held.props
