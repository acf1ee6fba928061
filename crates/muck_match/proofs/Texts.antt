-- Texts, their fronts and parts.
use Rattle.std.proofs.Common.{◌≡◌, ℕ, ◌<◌, false, List, length, take, arith}
use Rattle.std.proofs.lemmas.List.{length-take}
use Rattle.std.specs.Char.{to_ascii_lowercase}
use Rattle.muck_laws.proofs.Texts.{shorter_differs}
use Rattle.muck_match.specs.Words.{is_same, begins_alike}

pub short_begins : (front text : List ℕ) → length text < length front → begins_alike front text ≡ false
unfolding begins_alike is_same
short_begins front text lt = shorter_differs to_ascii_lowercase front (take (length front) text) (omega (arith, length-take (length front) text))
