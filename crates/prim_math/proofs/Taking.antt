-- The rows of numbers, by the items at the top.
use Rattle.std.proofs.Common.{◌≡◌, ◌∙◌, ℕ, List, [], ◌∷◌, take, drop, Bool, refl, ap}
use Rattle.std.specs.Prelude.{ℤ, Option, Some, None, slice_get}
use Rattle.std.specs.Option.{option_and_then}
use Rattle.std.specs.Ordering.{int_eq}
use Rattle.std.proofs.lemmas.List.{length-map}
use Rattle.muck_laws.proofs.Mapped.{map_drop}
use Rattle.muf_model.specs.declared.fault.MufFault.TheVariants.{BadType}
use Rattle.muf_model.specs.Datum.{Datum, int, object, variable}
use Rattle.muf_model.specs.Answer.{Answer, refuses, Scope, plain, makes, items_put, answer_unless, needing}
use Rattle.muf_model.specs.Needs.{takes_items, an_int, an_object, int_or_object, a_number}
use Rattle.muf_model.specs.Rows.{primitive_used}
use Rattle.muf_model.specs.NumberRows.{one_int, two_ints, compared, to_integer, to_object, objects_equal}
use Rattle.muf_model.specs.StackRows.{truth_item}
use Rattle.muf_frame.specs.inner.Answers.{int_at, object_at}
use Rattle.muf_frame.proofs.Ladders.{kinds, used_plain}
use Rattle.prim_math.specs.inner.Alike.{alike, as_number}

abbrev one_read : (ℤ → ℤ) → Option ℤ → List Datum → Answer
one_read f (Some i) rest = items_put 1 (makes (int (f i) ∷ [])) rest
one_read f None rest = refuses BadType

one_int_read : (f : ℤ → ℤ) (stack : List Datum) → answer_unless (kinds (an_int ∷ []) stack) (items_put 1 (one_int f (take 1 stack)) (drop 1 stack)) ≡ one_read f (int_at 0 stack) (drop 1 stack)
one_int_read f (int i ∷ rest) = refl
one_int_read f _ = refl

pub one_int_used : (f : ℤ → ℤ) (level : ℕ) (s : Scope) (stack : List Datum) → primitive_used level (takes_items (an_int ∷ [])) (Some (plain (one_int f))) s stack ≡ needing 1 s.locked stack (one_read f (int_at 0 stack) (drop 1 stack))
one_int_used f level s stack = used_plain level an_int [] (one_int f) s stack ∙ ap (needing 1 s.locked stack) (one_int_read f stack)

abbrev two_read : (ℤ → ℤ → ℤ) → Option ℤ → Option ℤ → List Datum → Answer
two_read f (Some j) (Some i) rest = items_put 2 (makes (int (f i j) ∷ [])) rest
two_read f _ _ rest = refuses BadType

two_ints_read : (f : ℤ → ℤ → ℤ) (stack : List Datum) → answer_unless (kinds (an_int ∷ an_int ∷ []) stack) (items_put 2 (two_ints f (take 2 stack)) (drop 2 stack)) ≡ two_read f (int_at 0 stack) (int_at 1 stack) (drop 2 stack)
two_ints_read f (int j ∷ int i ∷ rest) = refl
two_ints_read f _ = refl

pub two_ints_used : (f : ℤ → ℤ → ℤ) (level : ℕ) (s : Scope) (stack : List Datum) → primitive_used level (takes_items (an_int ∷ an_int ∷ [])) (Some (plain (two_ints f))) s stack ≡ needing 2 s.locked stack (two_read f (int_at 0 stack) (int_at 1 stack) (drop 2 stack))
two_ints_used f level s stack = used_plain level an_int (an_int ∷ []) (two_ints f) s stack ∙ ap (needing 2 s.locked stack) (two_ints_read f stack)

abbrev either_pair : Option ℤ → Option ℤ → Option ℤ → Option ℤ → Option (ℤ × ℤ)
either_pair (Some j) (Some i) c d = Some (i, j)
either_pair (Some j) None c d = None
either_pair None b (Some j) (Some i) = Some (i, j)
either_pair None b (Some j) None = None
either_pair None b None d = None

pub alike_read : (stack : List Datum) → alike stack ≡ either_pair (int_at 0 stack) (int_at 1 stack) (object_at 0 stack) (object_at 1 stack)
alike_read (int j ∷ int i ∷ rest) = refl
alike_read (object j ∷ object i ∷ rest) = refl
alike_read _ = refl

abbrev compare_read : (ℤ → ℤ → Bool) → Option (ℤ × ℤ) → List Datum → Answer
compare_read f (Some p) rest = items_put 2 (makes (truth_item (f p.0 p.1) ∷ [])) rest
compare_read f None rest = refuses BadType

compared_read : (f : ℤ → ℤ → Bool) (stack : List Datum) → answer_unless (kinds (int_or_object ∷ int_or_object ∷ []) stack) (items_put 2 (compared f (take 2 stack)) (drop 2 stack)) ≡ compare_read f (alike stack) (drop 2 stack)
compared_read f (int j ∷ int i ∷ rest) = refl
compared_read f (object j ∷ object i ∷ rest) = refl
compared_read f _ = refl

pub compared_used : (f : ℤ → ℤ → Bool) (level : ℕ) (s : Scope) (stack : List Datum) → primitive_used level (takes_items (int_or_object ∷ int_or_object ∷ [])) (Some (plain (compared f))) s stack ≡ needing 2 s.locked stack (compare_read f (alike stack) (drop 2 stack))
compared_used f level s stack = used_plain level int_or_object (int_or_object ∷ []) (compared f) s stack ∙ ap (needing 2 s.locked stack) (compared_read f stack)

pub ruleset int_steps = (one_int_used, two_ints_used, map_drop, length-map)

pub ruleset alike_steps = (alike_read)

pub ruleset compare_steps = (compared_used, map_drop, length-map)

pub ruleset truth_steps = (used_plain, length-map)

abbrev number_read : Option ℤ → List Datum → Answer
number_read (Some i) rest = items_put 1 (makes (int i ∷ [])) rest
number_read None rest = refuses BadType

number_of_read : (stack : List Datum) → answer_unless (kinds (a_number ∷ []) stack) (items_put 1 (to_integer (take 1 stack)) (drop 1 stack)) ≡ number_read (option_and_then as_number (slice_get stack 0)) (drop 1 stack)
number_of_read (int i ∷ rest) = refl
number_of_read (object d ∷ rest) = refl
number_of_read (variable v ∷ rest) = refl
number_of_read _ = refl

pub number_of_used : (level : ℕ) (s : Scope) (stack : List Datum) → primitive_used level (takes_items (a_number ∷ [])) (Some (plain to_integer)) s stack ≡ needing 1 s.locked stack (number_read (option_and_then as_number (slice_get stack 0)) (drop 1 stack))
number_of_used level s stack = used_plain level a_number [] to_integer s stack ∙ ap (needing 1 s.locked stack) (number_of_read stack)

abbrev object_read : Option ℤ → List Datum → Answer
object_read (Some i) rest = items_put 1 (makes (object i ∷ [])) rest
object_read None rest = refuses BadType

object_of_read : (stack : List Datum) → answer_unless (kinds (an_int ∷ []) stack) (items_put 1 (to_object (take 1 stack)) (drop 1 stack)) ≡ object_read (int_at 0 stack) (drop 1 stack)
object_of_read (int i ∷ rest) = refl
object_of_read _ = refl

pub object_of_used : (level : ℕ) (s : Scope) (stack : List Datum) → primitive_used level (takes_items (an_int ∷ [])) (Some (plain to_object)) s stack ≡ needing 1 s.locked stack (object_read (int_at 0 stack) (drop 1 stack))
object_of_used level s stack = used_plain level an_int [] to_object s stack ∙ ap (needing 1 s.locked stack) (object_of_read stack)

abbrev equal_read : Option ℤ → Option ℤ → List Datum → Answer
equal_read (Some j) (Some i) rest = items_put 2 (makes (truth_item (int_eq i j) ∷ [])) rest
equal_read _ _ rest = refuses BadType

objects_equal_read : (stack : List Datum) → answer_unless (kinds (an_object ∷ an_object ∷ []) stack) (items_put 2 (objects_equal (take 2 stack)) (drop 2 stack)) ≡ equal_read (object_at 0 stack) (object_at 1 stack) (drop 2 stack)
objects_equal_read (object j ∷ object i ∷ rest) = refl
objects_equal_read _ = refl

pub objects_equal_used : (level : ℕ) (s : Scope) (stack : List Datum) → primitive_used level (takes_items (an_object ∷ an_object ∷ [])) (Some (plain objects_equal)) s stack ≡ needing 2 s.locked stack (equal_read (object_at 0 stack) (object_at 1 stack) (drop 2 stack))
objects_equal_used level s stack = used_plain level an_object (an_object ∷ []) objects_equal s stack ∙ ap (needing 2 s.locked stack) (objects_equal_read stack)

pub ruleset kind_steps = (number_of_used, object_of_used, objects_equal_used, map_drop, length-map)
