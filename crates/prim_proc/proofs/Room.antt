-- How many items are left.
use Rattle.std.proofs.lemmas.List.{length-drop, length-map}
use Rattle.muck_laws.proofs.Mapped.{map_drop}

pub ruleset room_steps = (length-drop, length-map, map_drop)
