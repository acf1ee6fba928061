-- The pieces of a text between bytes 13.
use Rattle.std.specs.Prelude.{ℕ, List, [], Option}
use Rattle.std.specs.List.{slice_split}
use Rattle.std.specs.Option.{option_map_or}
use Rattle.spec_live.specs.Output.{is_return}
use denote.Bor.{Bor}

-- the pieces of what is left, or none where nothing is
abbrev pub pieces_after : Option (Bor (List ℕ)) → List (List ℕ)
pieces_after rest = option_map_or (λ text. slice_split is_return text.now) rest []
