-- What programs find of rights and of locks, by examples.
use Rattle.std.specs.Prelude.{◌≡◌, true, false, pos, List, [], ◌∷◌, None, refl}
use Rattle.muck_model.specs.declared.lock.Lock.{Lock}
use Rattle.muck_lock.specs.Opens.{opens_for}
use Rattle.muf_model.specs.declared.prims.Primitive.{Primitive}
use Rattle.muf_model.specs.declared.prims.Primitive.TheVariants.{Controls, TestLock}
use Rattle.muf_model.specs.Datum.{Datum, object, lock}
use Rattle.muf_model.specs.StackRows.{truth_item}
use Rattle.spec_live.specs.Objects.{dbref_of, object_at, number_in, kind_in, object_in, list_in}
use Rattle.spec_live.specs.Boards.{first_tune, early_board}
use Rattle.spec_live.specs.Start.{room_zero, player_one}
use Rattle.spec_live.specs.Seen.{listed_in}
use Rattle.spec_live.specs.Worth.{holdings_of}
use Rattle.spec_rights.specs.Levels.{level_at, owner_at, flag_at, controls_as, owns}
use Rattle.spec_rights.specs.Verdict.{is_near}
use Rattle.spec_commands.specs.inner.Company.{both_there, company}
use Rattle.spec_prims.specs.Asking.{level_fault, is_number_there, near_fault}
use Rattle.spec_prims.specs.Row.{gives}
use Rattle.spec_prims.specs.Shared.{first_fault, shared}
use Rattle.spec_prims.specs.inner.Rows.{acting_at}

-- by a wizard's program, where One and Two are
abbrev answers : Primitive → List Datum → Datum → Type 0
answers p stack item = shared p (acting_at 4 1) None 0 stack (company []) ≡ gives (item ∷ []) (company [])

unfoldable pub PrimRows : Type 0
PrimRows =
    -- Two doesn't control Room Zero, and One does
    answers Controls (object (pos 0) ∷ object (pos 2) ∷ []) (truth_item false)
    × answers Controls (object (pos 2) ∷ object (pos 1) ∷ []) (truth_item true)
    -- a lock is tried of the object, and of nobody else
    × ((l : Lock) → answers TestLock (lock l ∷ object (pos 2) ∷ []) (truth_item (opens_for (holdings_of both_there) l (dbref_of 2))))

pub prim_rows : PrimRows
unfolding PrimRows first_tune early_board object_at number_in kind_in object_in list_in room_zero player_one listed_in holdings_of level_at owner_at flag_at controls_as owns is_near level_fault is_number_there near_fault first_fault shared
prim_rows = (refl, refl, λ l. refl)
