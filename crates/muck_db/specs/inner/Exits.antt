-- The exits of an object, as its list has them.
use Rattle.std.specs.Prelude.{◌≡◌, ℕ, Bool, true, false, List, length}
use Rattle.std.specs.Option.{option_map_or}
use Rattle.spec_live.specs.Chain.{Ends, Member}
use Rattle.spec_live.specs.Recycling.{is_exit_of}
use Rattle.muck_db.specs.declared.slot.Slot.{Slot}
use Rattle.muck_db.specs.inner.Slots.{object_at, next_at, first_at, list_at}

-- k is an exit of d
unfoldable pub exit_at : ℕ → List Slot → ℕ → Bool
exit_at d slots k = option_map_or (is_exit_of d) (object_at slots k) false

-- the list of exits of d ends, and has every exit of d
pub record ListsExits (d : ℕ) (slots : List Slot) : Type 0 where
  pub ends : Ends (length slots) (next_at slots) (first_at true slots d)
  pub listed : (k : ℕ) → exit_at d slots k ≡ true → Member k (list_at true slots d)
