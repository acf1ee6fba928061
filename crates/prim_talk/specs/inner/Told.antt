-- What the primitives of talk take.
use Rattle.std.specs.Prelude.{List, ◌∷◌, ℤ, pos, ℕ, Option, Some, None}
use Rattle.muf_model.specs.Datum.{Datum, int, text, object}

-- the number of a player and the text upon it
abbrev pub told_in : List Datum → Option (ℤ × List ℕ)
told_in (text t ∷ object d ∷ rest) = Some (d, t)
told_in stack = None

-- a text and how many stand below it
abbrev pub counted_in : List Datum → Option (List ℕ × ℕ)
counted_in (text t ∷ int (pos n) ∷ rest) = Some (t, n)
counted_in stack = None
