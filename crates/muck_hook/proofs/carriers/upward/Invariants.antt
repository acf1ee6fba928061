use Rattle.std.proofs.Common.{◌≡◌, ◌++◌, ◌∷◌, length}
use Rattle.std.specs.List.{flat_map}
use Rattle.spec_live.specs.Seen.{places_of}
use Rattle.spec_hooks.specs.Firing.{fired_by}
use Rattle.muck_hook.specs.Firing.{upward_from}
use Rattle.muck_hook.proofs.carriers.upward.Given as goal

-- with those that are left it is all
abbrev pub invariant-loop-next : goal.invariant-loop-next
invariant-loop-next l = l.fires.items ++ flat_map (fired_by l.db l.cause) (upward_from l.db l.next) ≡ l.initial.fires.items ++ flat_map (fired_by l.db l.cause) (l.fn.object ∷ places_of l.db l.fn.object)

abbrev pub decreases-loop-next : goal.decreases-loop-next
decreases-loop-next l = length (upward_from l.db l.next)
