-- Bytes that a text may have.
use Rattle.std.specs.Prelude.{ℕ, Bool, true, not, ◌&&◌, List, [], ◌∷◌}
use Rattle.muck_model.specs.Bytes.{is_outside}

-- each is a byte of a text
abbrev pub are_inside : List ℕ → Bool
are_inside [] = true
are_inside (b ∷ bytes) = not (is_outside b) && are_inside bytes
