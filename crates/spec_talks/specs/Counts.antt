-- What the note of the links says of links.
use Rattle.std.specs.Prelude.{ℕ, List, map}
use Rattle.muck_links.specs.Sessions.{Session}
use Rattle.muck_model.specs.declared.note.Count.{Count}

abbrev pub count_of : Count → ℕ
count_of c = c.number

-- the count of each acceptance, the latest first
abbrev pub counts : List Session → List Count
counts ss = map (λ s. record { number = s.number; refused = s.refused }) ss
