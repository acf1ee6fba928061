use Rattle.std.proofs.Common.{◌≡◌, ◌∷◌, length}
use Rattle.spec_live.specs.Seen.{places_of}
use Rattle.muck_perm.specs.inner.Guards.{objects_of}
use Rattle.spec_mpi.specs.Telling.{first_text}
use Rattle.muck_mpi.specs.inner.Upward.{upward_from}
use Rattle.muck_mpi.proofs.properties.text_upward.Given as goal

-- those that were looked at have none
abbrev pub invariant-loop-next : goal.invariant-loop-next
invariant-loop-next l =
    first_text (objects_of l.fn.guard) l.fn.guard.actor l.fn.path (l.fn.object ∷ places_of (objects_of l.fn.guard) l.fn.object)
    ≡ first_text (objects_of l.fn.guard) l.fn.guard.actor l.fn.path (upward_from (objects_of l.fn.guard) l.next)

abbrev pub decreases-loop-next : goal.decreases-loop-next
decreases-loop-next l = length (upward_from (objects_of l.fn.guard) l.next)
