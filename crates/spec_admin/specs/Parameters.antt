-- What a wizard tunes.
use Rattle.std.specs.Prelude.{ℕ, nat_le, if◌then◌else◌, List, Option, Some, None}
use Rattle.std.specs.Option.{option_and_then, option_map}
use Rattle.muck_model.specs.declared.tune.Tune.{Tune}
use Rattle.muck_model.specs.declared.tune.Parameter.{Parameter}
use Rattle.muck_model.specs.Parameters.{row_of, parameter_named, with_parameter}
use Rattle.muck_model.specs.Decimal.{decimal_of}

-- the value that a text writes for a parameter, where it is in its range
abbrev pub value_for : Parameter → List ℕ → Option ℕ
value_for p text = option_and_then (λ n. if nat_le 1 n then Some n else None) (decimal_of (row_of p).most text)

-- a parameter is set, where name and value are right
unfoldable pub retuned : List ℕ → List ℕ → Tune → Option Tune
retuned name text tune = option_and_then (λ p. option_map (λ n. with_parameter p n tune) (value_for p text)) (parameter_named name)
