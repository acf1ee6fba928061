-- Who is tied to a number, which is noted there: who has its home there, or a link to it.
use Rattle.std.specs.Prelude.{◌≡◌, ◌⊎◌, ℕ, ◌≤◌, Bool, true, false, List, length, Option, Some, slice_get}
use Rattle.std.specs.BTreeSet.{contains}
use Rattle.std.specs.Ordering.{nat_cmp}
use Rattle.std.specs.Option.{option_map_or, option_and_then}
use Rattle.spec_live.specs.Objects.{index_of}
use Rattle.spec_live.specs.Recycling.{is_tied_to_number}
use Rattle.muck_db.specs.declared.slot.Slot.{Slot}
use Rattle.muck_db.specs.declared.ties.Tied.{Tied}
use Rattle.muck_db.specs.declared.ties.Tether.{Tether}
use Rattle.muck_db.specs.inner.Slots.{object_at, IsKept}

-- k is tied to d
unfoldable pub is_tied_at : ℕ → List Slot → ℕ → Bool
is_tied_at d slots k = option_map_or (is_tied_to_number d) (object_at slots k) false

unfoldable pub link_at : List Slot → ℕ → Option ℕ
link_at slots k = option_and_then (λ o. index_of o.link) (object_at slots k)

-- its home or its link leads to d
abbrev pub Tethers : Tether → ℕ → Type 0
Tethers t d = (t.home ≡ Some d) ⊎ (t.link ≡ Some d)

-- the number is among these, or they may not be all
abbrev pub Notes : Tied → ℕ → Type 0
Notes t k = t.is_whole ≡ true → contains nat_cmp t.numbers k ≡ true

-- k is noted at d, where anything is
unfoldable pub IsNoted : List Tied → ℕ → ℕ → Type 0
IsNoted ties d k = (t : Tied) → slice_get ties d ≡ Some t → Notes t k

-- each number has a place for what is tied to it, and whatever is tied to one above 0 is noted there
pub record HasTies (slots : List Slot) (ties : List Tied) : Type 0 where
  pub long : length slots ≤ length ties
  pub noted : (d k : ℕ) → (d ≡ 0 → ⊥) → is_tied_at d slots k ≡ true → IsNoted ties d k

-- the rule of the type: that of the table, and of what is noted
pub record IsHeld (slots : List Slot) (lowest told : ℕ) (players : List ℕ) (ties : List Tied) : Type 0 where
  pub kept : IsKept slots lowest told players
  pub tied : HasTies slots ties
