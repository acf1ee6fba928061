use Rattle.std.proofs.Common.{◌≡◌, ◌++◌, take}
use Rattle.std.specs.List.{flat_map}
use Rattle.muck_hook.specs.Firing.{fired_unplayed}
use Rattle.muck_hook.proofs.carriers.push_others.Given as goal

abbrev pub invariant-loop-object : goal.invariant-loop-object
invariant-loop-object l = l.fires.items ≡ l.initial.fires.items ++ flat_map (fired_unplayed l.db l.cause) (take l.object-index l.things)
