-- Items that give way to what is made.
use Rattle.std.proofs.lemmas.List.{length-append, length-drop, length-map, map-append}
use Rattle.muck_laws.proofs.Mapped.{map_drop}

pub ruleset giving_steps = (length-append, length-drop, length-map, map-append, map_drop)
