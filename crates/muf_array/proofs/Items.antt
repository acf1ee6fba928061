-- Keys and items at the top of the stack.
use Rattle.std.proofs.Common.{◌≡◌}
use Rattle.std.proofs.lemmas.List.{length-map}
use Rattle.muf_frame.proofs.Data.{list_steps}

pub ruleset key_steps = (length-map)
