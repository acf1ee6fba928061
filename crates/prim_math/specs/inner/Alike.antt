-- What the items at the top are.
use Rattle.std.specs.Prelude.{List, ◌∷◌, ℤ, Option, Some, None}
use Rattle.std.specs.Int.{w32, cast_signed}
use Rattle.muf_model.specs.Datum.{Datum, int, object, variable}

-- the numbers of two integers or of two objects at the top, the upper one last
abbrev pub alike : List Datum → Option (ℤ × ℤ)
alike (int j ∷ int i ∷ rest) = Some (i, j)
alike (object j ∷ object i ∷ rest) = Some (i, j)
alike _ = None

-- the number that a value is or has
abbrev pub as_number : Datum → Option ℤ
as_number (int i) = Some i
as_number (object d) = Some d
as_number (variable v) = Some (cast_signed w32 v)
as_number _ = None
