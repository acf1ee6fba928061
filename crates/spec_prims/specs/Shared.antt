-- Every primitive that reaches the world by its row: what is asked first, and what it makes of the stack and of the world.
use Rattle.std.specs.Prelude.{ℕ, List, length, take, drop, Option, Some, None}
use Rattle.std.specs.Option.{option_or, option_map_or}
use Rattle.spec_live.specs.Lives.{Live}
use Rattle.spec_rights.specs.declared.act.Actor.{Actor}
use Rattle.muf_model.specs.declared.fault.MufFault.{MufFault}
use Rattle.muf_model.specs.declared.fault.MufFault.TheVariants.{NotCompiled}
use Rattle.muf_model.specs.declared.prims.Primitive.{Primitive}
use Rattle.muf_model.specs.declared.prims.Family.{Family}
use Rattle.muf_model.specs.declared.prims.Family.TheVariants.{Object, Property, Talk}
use Rattle.muf_model.specs.Datum.{Datum}
use Rattle.muf_model.specs.Needs.{Needs}
use Rattle.muf_model.specs.Prims.{family_of, primitive_level, needs_of}
use Rattle.muf_model.specs.Ladder.{wanted, ladder, nearby}
use Rattle.spec_prims.specs.Asking.{level_fault, is_number_there, near_fault}
use Rattle.spec_prims.specs.Row.{WorldAnswer, refuses, WorldDoing, row_unless, given_upon}
use Rattle.spec_prims.specs.ObjectRows.{object_row}
use Rattle.spec_prims.specs.PropRows.{property_row}
use Rattle.spec_prims.specs.Talk.{talk_row}

-- of the process its connection is asked, where it has one
abbrev pub doing_in : Option ℕ → Family → Primitive → Option WorldDoing
doing_in descr Object p = object_row p
doing_in descr Property p = property_row p
doing_in descr Talk p = talk_row descr p
doing_in descr family p = None

-- the row of a primitive, where there is one
abbrev pub shared_row : Option ℕ → Primitive → Option WorldDoing
shared_row descr p = doing_in descr (family_of p) p

-- how many items it takes
abbrev pub items_taken : Primitive → List Datum → ℕ
items_taken p stack = option_map_or (λ needs. length (wanted needs stack)) (needs_of p) 0

abbrev pub fault_by : Option Needs → ℕ → Option MufFault → Actor → ℕ → List Datum → Live → Option MufFault
fault_by None level argued a locked stack w = Some NotCompiled
fault_by (Some needs) level argued a locked stack w =
    option_or (ladder level needs (level_fault a w.objects) (is_number_there w.objects) locked stack)
    (option_or argued (nearby needs (near_fault a w.objects) stack))

-- The fault of the first test that doesn't pass: the count of the items, the level, what they are, which of them must be
-- there, the primitive's own rule for its arguments, which finds this fault or none, and which of them must be near. No
-- built program has a primitive that isn't there yet.
unfoldable pub first_fault : Primitive → Option MufFault → Actor → ℕ → List Datum → Live → Option MufFault
first_fault p argued a locked stack w = fault_by (needs_of p) (primitive_level p) argued a locked stack w

abbrev pub primitive_done : Option WorldDoing → Primitive → Actor → ℕ → List Datum → Live → WorldAnswer
primitive_done None p a locked stack w = refuses NotCompiled
primitive_done (Some doing) p a locked stack w =
    row_unless (first_fault p (doing.argued a (take (items_taken p stack) stack) w) a locked stack w)
    (given_upon (drop (items_taken p stack) stack) (doing.does a (take (items_taken p stack) stack) w))

-- what a primitive makes of a stack of which so many items are locked, and of the world, in a process of that connection
unfoldable pub shared : Primitive → Actor → Option ℕ → ℕ → List Datum → Live → WorldAnswer
shared p a descr locked stack w = primitive_done (shared_row descr p) p a locked stack w
