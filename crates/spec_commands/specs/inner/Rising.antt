-- Connections that stand by rising number.
use Rattle.std.specs.Prelude.{ℕ, ◌<◌, List, [], ◌∷◌}
use Rattle.spec_live.specs.Connections.{Connection}

-- every number is above n
abbrev pub IsAbove : ℕ → List Connection → Type 0
IsAbove n [] = Unit {0}
IsAbove n (c ∷ cs) = (n < c.number) × IsAbove n cs

abbrev pub IsRising : List Connection → Type 0
IsRising [] = Unit {0}
IsRising (c ∷ cs) = IsAbove c.number cs × IsRising cs
