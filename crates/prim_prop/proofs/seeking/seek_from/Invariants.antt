use Rattle.std.proofs.Common.{◌≡◌, ◌∷◌, length}
use Rattle.spec_live.specs.Seen.{places_of}
use Rattle.muck_perm.specs.inner.Guards.{objects_of, world_of}
use Rattle.spec_prims.specs.PropRows.{first_holder}
use Rattle.prim_prop.specs.inner.Looks.{form_of}
use Rattle.prim_prop.specs.inner.Upward.{upward_from}
use Rattle.prim_prop.proofs.seeking.seek_from.Given as goal

-- those that were looked at have no value
abbrev pub invariant-loop-next : goal.invariant-loop-next
invariant-loop-next l =
    first_holder (form_of l.fn.form) l.fn.guard.actor l.fn.path (l.fn.object ∷ places_of (objects_of l.fn.guard) l.fn.object) (world_of l.fn.guard)
    ≡ first_holder (form_of l.fn.form) l.fn.guard.actor l.fn.path (upward_from (objects_of l.fn.guard) l.next) (world_of l.fn.guard)

abbrev pub decreases-loop-next : goal.decreases-loop-next
decreases-loop-next l = length (upward_from (objects_of l.fn.guard) l.next)
