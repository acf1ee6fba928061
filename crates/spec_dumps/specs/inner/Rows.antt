-- Worked dumps that aren't what they are told to be.
use Rattle.std.specs.Prelude.{◌≡◌, ℕ, ◌+◌, Bool, true, false, List, [], ◌∷◌}
use Rattle.muck_model.specs.declared.event.Entry.{Entry}
use Rattle.muck_model.specs.declared.event.Event.TheVariants.{Cut, Stored, DumpFailed}
use Rattle.muck_model.specs.declared.note.Note.{Note}
use Rattle.muck_log.specs.Store.{Chosen}
use Rattle.spec_live.specs.Boards.{first_tune}
use Rattle.spec_events.specs.World.{World, world_booted}
use Rattle.spec_events.specs.Histories.{by_porter}
use Rattle.spec_dumps.specs.Fronts.{IsFront}
use Rattle.spec_dumps.specs.Survival.{HoldsAt, HoldsBy, HasCause, IsDelta}

-- two disks, each with the images that a test lets through
abbrev pub left_by : (Bool → ℕ → List ℕ → Bool) → Bool → ℕ → List ℕ → Type 0
left_by test disk t c = test disk t c ≡ true

-- a world of no objects
abbrev pub bare : World
bare = world_booted [] first_tune 0 0

-- two disks on which nothing was ever written
abbrev pub nothing_left : Bool → ℕ → List ℕ → Type 0
nothing_left disk t c = c ≡ []

-- a note behind so many entries, at this moment of both disks, which never failed
abbrev pub quiet_note : ℕ → ℕ → Note
quiet_note entries moment = record { entries = entries; first_moment = moment; second_moment = moment; first_faults = 0; second_faults = 0 }

-- the mounting, the Cut of a dump, and its end
abbrev pub one_dump : List Note
one_dump = quiet_note 0 0 ∷ quiet_note 0 0 ∷ quiet_note 1 1 ∷ []

unfoldable pub Rows : Type 0
Rows =
    -- a dump failed on an empty store, and no disk did: it has no cause
    (HasCause nothing_left true true bare 0 (by_porter (Cut 1) ∷ by_porter (DumpFailed 1) ∷ []) one_dump 0 (quiet_note 1 1) (quiet_note 0 0) → ⊥)
    -- a dump was stored, and this store, of number 0, doesn't have it: it is no front
    × ((s : Chosen) → s.held.number ≡ 0 → IsFront bare 0 (by_porter (Cut 1) ∷ by_porter (Stored 1) ∷ []) one_dump 2 s → ⊥)
    -- a store held one batch, and one dump later it is of the next generation: that was no delta
    × ((test : Bool → ℕ → List ℕ → Bool) (s next : Chosen) (w now : World) (mounted n : ℕ) (h : List Entry) (notes : List Note) →
    HoldsBy (left_by test) false true (quiet_note 0 0) s → s.held.count ≡ 1 → HoldsBy (left_by test) false true (quiet_note 1 1) next → next.held.generation ≡ s.held.generation + 1 →
    IsDelta (left_by test) false true w mounted h notes n (quiet_note 0 0) (quiet_note 1 1) now → ⊥)
    -- both disks hold one store at a moment, and no other
    × ((test : Bool → ℕ → List ℕ → Bool) (t u : ℕ) (s other : Chosen) → HoldsAt (left_by test) false true t u s → HoldsAt (left_by test) false true t u other → s ≡ other)
