-- Worked rows, which the checker computes.
use Rattle.std.specs.Prelude.{◌≡◌, ℕ, pos, negsuc, List, [], ◌∷◌, Option, Some, None, codes, refl}
use Rattle.spec_live.specs.Objects.{dbref_of, object_at, number_in, kind_in, object_in}
use Rattle.spec_live.specs.Boards.{first_tune, early_board, told_player}
use Rattle.spec_live.specs.Lives.{Live, tell_player}
use Rattle.spec_live.specs.Start.{room_zero, player_one, first_objects}
use Rattle.spec_rights.specs.declared.act.Actor.{Actor}
use Rattle.spec_rights.specs.Verdict.{is_near}
use Rattle.muf_model.specs.declared.fault.MufFault.TheVariants.{StackEmpty, StackLocked, BadType, BadArgument, NoSuchObject, Denied, NotCompiled}
use Rattle.muf_model.specs.declared.prims.Primitive.TheVariants.{Notify, Fork}
use Rattle.muf_model.specs.declared.fault.MufFault.{MufFault}
use Rattle.muf_model.specs.Datum.{Datum, int, text, object}
use Rattle.muf_model.specs.Needs.{counts_at, a_text, an_int, an_object, a_near_one}
use Rattle.spec_prims.specs.Asking.{level_fault, is_number_there, near_fault}
use Rattle.spec_prims.specs.Row.{gives, refuses, WorldDoing}
use Rattle.spec_prims.specs.Shared.{fault_by, first_fault, primitive_done, shared}
use Rattle.spec_prims.specs.Talk.{notified}

-- Room Zero and One, and nobody connected
abbrev pub at_first : Live
at_first = record { objects = first_objects; board = early_board 0 first_tune }

-- an actor of that level, for the player of that number
abbrev pub acting_at : ℕ → ℕ → Actor
acting_at level player = record { level = level; user = dbref_of player; player = dbref_of player }

abbrev pub hello : Datum
hello = text (codes "hello")

-- a text upon an object of that number
abbrev pub told : ℕ → List Datum
told n = hello ∷ object (pos n) ∷ []

-- one that allows no arguments
abbrev pub forbidden : WorldDoing
forbidden = record { argued = λ a items w. Some BadArgument; does = notified }

-- the tests of one that takes a text, and under it a count, so many objects, and one that must be near
abbrev pub counted : List Datum → Option MufFault
counted stack = fault_by (counts_at 1 (a_text ∷ an_int ∷ []) (an_object ∷ []) (a_near_one ∷ [])) 1 None (acting_at 1 1) 0 stack at_first

-- the rows
unfoldable pub Rows : Type 0
Rows =
    -- too few items, also where the rest of the test would fail; and too few of them above the locked part
    (shared Notify (acting_at 0 1) None 0 (int (pos 1) ∷ []) at_first ≡ refuses StackEmpty)
    × (shared Notify (acting_at 0 1) None 1 (int (pos 1) ∷ int (pos 2) ∷ []) at_first ≡ refuses StackLocked)
    -- the level, before what the items are
    × (shared Notify (acting_at 0 1) None 0 (int (pos 1) ∷ int (pos 2) ∷ []) at_first ≡ refuses (Denied 1))
    -- what they are, before which are there
    × (shared Notify (acting_at 1 1) None 0 (int (pos 1) ∷ object (pos 7) ∷ []) at_first ≡ refuses BadType)
    -- which are there, before which are near
    × (shared Notify (acting_at 1 1) None 0 (told 7) at_first ≡ refuses NoSuchObject)
    -- from afar, at level 1 and above it
    × (shared Notify (acting_at 1 7) None 0 (told 1) at_first ≡ refuses (Denied 2))
    × (shared Notify (acting_at 2 7) None 0 (told 1) at_first ≡ gives [] at_first)
    -- what is under the items stays
    × (shared Notify (acting_at 1 1) None 0 (hello ∷ object (pos 1) ∷ hello ∷ []) at_first ≡ gives (hello ∷ []) at_first)
    -- a rule for its arguments is asked behind which are there, and before which are near
    × (primitive_done (Some forbidden) Notify (acting_at 1 1) 0 (told 7) at_first ≡ refuses NoSuchObject)
    × (primitive_done (Some forbidden) Notify (acting_at 1 7) 0 (told 1) at_first ≡ refuses BadArgument)
    -- so many objects as an item says, and one under them: with too few of them, with a count below 0, with one among them
    -- that is none, with none that is there under them, and as it should be
    × (counted (hello ∷ int (pos 2) ∷ object (pos 7) ∷ object (pos 1) ∷ []) ≡ Some StackEmpty)
    × (counted (hello ∷ int (negsuc 0) ∷ object (pos 1) ∷ []) ≡ Some BadArgument)
    × (counted (hello ∷ int (pos 2) ∷ object (pos 7) ∷ hello ∷ object (pos 1) ∷ []) ≡ Some BadType)
    × (counted (hello ∷ int (pos 1) ∷ object (pos 1) ∷ object (pos 7) ∷ []) ≡ Some NoSuchObject)
    × (counted (hello ∷ int (pos 1) ∷ object (pos 7) ∷ object (pos 1) ∷ []) ≡ None)
    -- one without a row
    × (shared Fork (acting_at 4 1) None 0 (told 1) at_first ≡ refuses NotCompiled)

pub rows : Rows
unfolding Rows first_tune early_board told_player tell_player object_at number_in kind_in object_in room_zero player_one first_objects is_near level_fault is_number_there near_fault first_fault shared
rows = (refl, refl, refl, refl, refl, refl, refl, refl, refl, refl, refl, refl, refl, refl, refl, refl)
