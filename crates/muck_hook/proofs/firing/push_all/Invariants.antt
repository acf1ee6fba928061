use Rattle.std.proofs.Common.{◌≡◌, ◌++◌, take}
use Rattle.std.specs.List.{flat_map}
use Rattle.muck_hook.specs.Firing.{fired_listed}
use Rattle.muck_hook.proofs.firing.push_all.Given as goal

abbrev pub invariant-loop-listed : goal.invariant-loop-listed
invariant-loop-listed l = l.fires.items ≡ l.initial.fires.items ++ flat_map (fired_listed l.db l.cause l.carrier) (take l.listed-index l.listed-items)
