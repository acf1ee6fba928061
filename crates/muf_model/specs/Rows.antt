-- What each primitive does that needs no world.
use Rattle.std.specs.Prelude.{ℕ, List, Bool, not, ◌||◌, is_some, Option, Some, None, take, drop, length}
use Rattle.muf_model.specs.declared.fault.MufFault.TheVariants.{NotCompiled}
use Rattle.muf_model.specs.declared.prims.Primitive.{Primitive}
use Rattle.muf_model.specs.declared.prims.Family.{Family}
use Rattle.muf_model.specs.declared.prims.Family.TheVariants.{Stack, Number, Text, Array}
use Rattle.muf_model.specs.Needs.{Needs}
use Rattle.muf_model.specs.Prims.{primitive_level, family_of, needs_of, is_local, is_usable}
use Rattle.muf_model.specs.Datum.{Datum}
use Rattle.muf_model.specs.Answer.{Answer, refuses, Scope, PrimitiveEffect, plain, whole, items_put, answer_unless}
use Rattle.muf_model.specs.Ladder.{ladder, wanted, any_level, all_there}
use Rattle.muf_model.specs.StackRows.{stack_row}
use Rattle.muf_model.specs.NumberRows.{number_row, unlike}
use Rattle.muf_model.specs.TextRows.{text_row}
use Rattle.muf_model.specs.ArrayRows.{array_row}

abbrev effect_in : Family → Primitive → Option PrimitiveEffect
effect_in Stack p = stack_row p
effect_in Number p = number_row p
effect_in Text p = text_row p
effect_in Array p = array_row p
effect_in _ p = None

-- what a primitive does, where it needs no world
abbrev pub local_row : Primitive → Option PrimitiveEffect
local_row p = effect_in (family_of p) p

-- whether a primitive that needs no world is there exactly where a row says what it does
abbrev pub is_settled : Primitive → Bool
is_settled p = not (is_local p) || not (unlike (is_usable p) (is_some (local_row p)))

-- the items that are taken give way to those that are made
abbrev pub does : PrimitiveEffect → Needs → Scope → List Datum → Answer
does (plain f) needs s stack = items_put (length (wanted needs stack)) (f (take (length (wanted needs stack)) stack)) (drop (length (wanted needs stack)) stack)
does (whole f) needs s stack = f s stack

-- the tests that all begin with, none of which needs a world, and then the row
abbrev pub primitive_used : ℕ → Option Needs → Option PrimitiveEffect → Scope → List Datum → Answer
primitive_used level (Some needs) (Some deed) s stack = answer_unless (ladder level needs any_level all_there s.locked stack) (does deed needs s stack)
primitive_used level _ _ s stack = refuses NotCompiled

abbrev pub primitive : Primitive → Scope → List Datum → Answer
primitive p s stack = primitive_used (primitive_level p) (needs_of p) (local_row p) s stack
