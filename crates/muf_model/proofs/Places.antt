-- Places of lists, seen as data.
use Rattle.std.proofs.lemmas.List.{map-set, set_past}
use Rattle.std.proofs.lemmas.Option.{slice_get-map}

pub ruleset list_steps = (slice_get-map, map-set, set_past)
