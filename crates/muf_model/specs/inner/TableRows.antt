-- The primitives for which a program needs more than level 1, and the modes by their names.
use Rattle.std.specs.Prelude.{◌≡◌, ℕ, not, ◌==◌, List, [], ◌∷◌, map, length, codes, Some, refl}
use Rattle.std.specs.List.{filter}
use Rattle.muf_model.specs.declared.prims.Primitive.{Primitive}
use Rattle.muf_model.specs.declared.prims.Primitive.TheVariants.{SetName, Set, SetLink, NewRoom, NewObject, NewExit, Recycle, SetOwn, SetLockStr, ParseMpi, Online, ConDbref, Descriptors, ConBoot, Fork, Kill, Queue, EventSend, Mode, SetMode, Preempt, Foreground, Background}
use Rattle.muf_model.specs.Prims.{name_of, primitive_level, primitives, named_in_any_case}

abbrev needs_more : List Primitive
needs_more = filter (λ p. not (primitive_level p == 1)) primitives

unfoldable pub TableRows : Type 0
TableRows =
    (length primitives ≡ 168)
    -- all others have level 1
    × (map {B = Primitive × List ℕ × ℕ} (λ p. (p, name_of p, primitive_level p)) needs_more ≡
    (SetName, codes "SETNAME", 2)
    ∷ (Set, codes "SET", 2)
    ∷ (SetLink, codes "SETLINK", 2)
    ∷ (NewRoom, codes "NEWROOM", 2)
    ∷ (NewObject, codes "NEWOBJECT", 2)
    ∷ (NewExit, codes "NEWEXIT", 2)
    ∷ (Recycle, codes "RECYCLE", 3)
    ∷ (SetOwn, codes "SETOWN", 2)
    ∷ (SetLockStr, codes "SETLOCKSTR", 2)
    ∷ (ParseMpi, codes "PARSEMPI", 3)
    ∷ (Online, codes "ONLINE", 3)
    ∷ (ConDbref, codes "CONDBREF", 3)
    ∷ (Descriptors, codes "DESCRIPTORS", 3)
    ∷ (ConBoot, codes "CONBOOT", 4)
    ∷ (Fork, codes "FORK", 3)
    ∷ (Kill, codes "KILL", 3)
    ∷ (Queue, codes "QUEUE", 3)
    ∷ (EventSend, codes "EVENT_SEND", 3)
    ∷ [])
    -- the modes, in any case
    × (named_in_any_case (codes "mode") ≡ Some Mode)
    × (named_in_any_case (codes "SetMode") ≡ Some SetMode)
    × (named_in_any_case (codes "preempt") ≡ Some Preempt)
    × (named_in_any_case (codes "Foreground") ≡ Some Foreground)
    × (named_in_any_case (codes "BACKGROUND") ≡ Some Background)

pub table_rows : TableRows
unfolding TableRows primitives named_in_any_case
table_rows = (refl, refl, refl, refl, refl, refl, refl)
