-- Who stands elsewhere than when the event began, seen at the slots.
use Rattle.std.specs.Prelude.{◌≡◌, ◌⊎◌, ℕ, ◌≤◌, ◌<◌, Bool, true, false, not, List, Option, Some, None, slice_get}
use Rattle.muck_model.specs.declared.dbref.Dbref.{Dbref}
use Rattle.spec_live.specs.Objects.{same}
use Rattle.spec_live.specs.Stood.{standing}
use Rattle.muck_db.specs.declared.slot.Slot.{Slot}
use Rattle.muck_db.specs.declared.stood.Moves.{Moves}
use Rattle.muck_db.specs.inner.Slots.{shown}

abbrev pub is_where : Option Dbref → Option Dbref → Bool
is_where None None = true
is_where (Some a) (Some b) = same a b
is_where a b = false

abbrev pub has_moved : Slot → Bool
has_moved s = not (is_where s.stood (standing (shown s)))

-- where it stands is where it stood
abbrev pub rested : Slot → Slot
rested s = record s { stood = standing (shown s) }

-- no slot has moved
abbrev pub NoneMoved : List Slot → Type 0
NoneMoved slots = (k : ℕ) (s : Slot) → slice_get slots k ≡ Some s → has_moved s ≡ false

-- those that have moved are numbered from low to high
abbrev pub AreWithin : ℕ → ℕ → List Slot → Type 0
AreWithin low high slots = (k : ℕ) (s : Slot) → slice_get slots k ≡ Some s → has_moved s ≡ true → (low ≤ k) × (k ≤ high)

-- from low on, below the end
abbrev pub AreBefore : ℕ → ℕ → List Slot → Type 0
AreBefore low end slots = (k : ℕ) (s : Slot) → slice_get slots k ≡ Some s → has_moved s ≡ true → (low ≤ k) × (k < end)

-- the one that was written last isn't looked at yet
abbrev pub AreNoted : Moves → List Slot → Type 0
AreNoted m slots = (k : ℕ) (s : Slot) → slice_get slots k ≡ Some s → has_moved s ≡ true → (m.last ≡ Some k) ⊎ ((m.low ≤ k) × (k ≤ m.high))

abbrev pub none_moved : Moves
none_moved = record { low = 18446744073709551615; high = 0; last = None }
