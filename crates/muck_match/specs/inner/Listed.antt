-- Players by a list of numbers.
use Rattle.std.specs.Prelude.{◌≡◌, ℕ, pos, true, List, Some, slice_get}
use Rattle.muck_model.specs.Numbers.{dbref_numbered}
use Rattle.muck_match.specs.Scenery.{Scenery, sees, is_player}

-- the number stands in the list
pub record IsAmong (ns : List ℕ) (n : ℕ) : Type 0 where
  pub at : ℕ
  pub is : slice_get ns at ≡ Some n

-- each player stands in the list
abbrev pub AreListed : Scenery → List ℕ → Type 0
AreListed w ns = (n : ℕ) → sees (λ s. is_player s.kind) w (dbref_numbered (pos n)) ≡ true → IsAmong ns n
