-- The rows of variables, addresses and texts, by the item at the top.
use Rattle.std.proofs.Common.{◌≢◌, true, false, is_some, rules, ◌≡◌, ℕ, List, [], ◌∷◌, take, drop, refl, ap, ◌∙◌}
use Rattle.std.specs.Prelude.{ℤ, Option, Some, None, slice_get, ◌&&◌, nat_lt, if◌then◌else◌}
use Rattle.std.specs.Ordering.{int_eq}
use Rattle.std.specs.Option.{option_and_then}
use Rattle.std.proofs.lemmas.List.{length-map}
use Rattle.std.proofs.lemmas.Option.{slice_get-map}
use Rattle.muck_laws.proofs.Mapped.{map_drop}
use Rattle.muf_model.specs.declared.fault.MufFault.TheVariants.{BadType, BadArgument, BadAddress, Aborted}
use Rattle.muf_model.specs.Datum.{Datum, text, variable, address}
use Rattle.muf_model.specs.Answer.{Answer, stores, calls, refuses, Scope, variable_at, needing, items_put, answer_unless}
use Rattle.muf_model.specs.Needs.{anything, a_text, a_variable, an_address}
use Rattle.muf_model.specs.Prims.{family_of}
use Rattle.muf_model.specs.declared.prims.Family.TheVariants.{Stack}
use Rattle.muf_model.specs.Rows.{primitive}
use Rattle.muf_frame.proofs.Ladders.{kinds, used_plain, used_whole}
use Rattle.muf_model.specs.StackRows.{item_stored, variable_storing, fetched, fetching, executed, aborted}
use Rattle.muf_model.specs.declared.prims.Primitive.{Primitive}
use Rattle.muf_model.specs.declared.prims.Primitive.TheVariants.{Fetch, Store, Execute, Abort}
use Rattle.muf_model.specs.inner.Flat.{Flat}
use Rattle.muf_frame.specs.inner.Moves.{scope_of}
use Rattle.muf_frame.specs.inner.Answers.{text_at}
use Rattle.prim_stack.specs.inner.Does.{as_variable, as_address}

abbrev fetch_read : Scope → Option ℕ → List Datum → Answer
fetch_read s (Some v) rest = fetched (variable_at v s) rest
fetch_read s None rest = refuses BadType

fetching_read : (s : Scope) (stack : List Datum) → answer_unless (kinds (a_variable ∷ []) stack) (fetching s stack) ≡ fetch_read s (option_and_then as_variable (slice_get stack 0)) (drop 1 stack)
fetching_read s (variable v ∷ rest) = refl
fetching_read s _ = refl

pub fetch_row : (s : Scope) (stack : List Datum) → primitive Fetch s stack ≡ needing 1 s.locked stack (fetch_read s (option_and_then as_variable (slice_get stack 0)) (drop 1 stack))
fetch_row s stack = used_whole 1 a_variable [] fetching s stack ∙ ap (needing 1 s.locked stack) (fetching_read s stack)

abbrev execute_read : Scope → Option (ℤ × ℕ) → List Datum → Answer
execute_read s (Some a) rest = if int_eq a.0 s.program && nat_lt a.1 s.words then calls a.1 rest else refuses BadAddress
execute_read s None rest = refuses BadType

executed_read : (s : Scope) (stack : List Datum) → answer_unless (kinds (an_address ∷ []) stack) (executed s stack) ≡ execute_read s (option_and_then as_address (slice_get stack 0)) (drop 1 stack)
executed_read s (address program word ∷ rest) = refl
executed_read s _ = refl

pub execute_row : (s : Scope) (stack : List Datum) → primitive Execute s stack ≡ needing 1 s.locked stack (execute_read s (option_and_then as_address (slice_get stack 0)) (drop 1 stack))
execute_row s stack = used_whole 1 an_address [] executed s stack ∙ ap (needing 1 s.locked stack) (executed_read s stack)

abbrev abort_read : Option (List ℕ) → Answer
abort_read (Some t) = refuses (Aborted t)
abort_read None = refuses BadType

aborted_read : (stack : List Datum) → answer_unless (kinds (a_text ∷ []) stack) (items_put 1 (aborted (take 1 stack)) (drop 1 stack)) ≡ abort_read (text_at 0 stack)
aborted_read (text t ∷ rest) = refl
aborted_read _ = refl

pub abort_row : (s : Scope) (stack : List Datum) → primitive Abort s stack ≡ needing 1 s.locked stack (abort_read (text_at 0 stack))
abort_row s stack = used_plain 1 a_text [] aborted s stack ∙ ap (needing 1 s.locked stack) (aborted_read stack)

-- what is stored, where the variable is there
abbrev store_answer : Option Datum → ℕ → Option Datum → List Datum → Answer
store_answer old v (Some x) rest = item_stored old v x rest
store_answer old v None rest = refuses BadType

abbrev store_read : Scope → Option ℕ → Option Datum → List Datum → Answer
store_read s (Some v) x rest = store_answer (variable_at v s) v x rest
store_read s None x rest = refuses BadType

storing_read : (s : Scope) (stack : List Datum) → answer_unless (kinds (a_variable ∷ anything ∷ []) stack) (variable_storing s stack) ≡ store_read s (option_and_then as_variable (slice_get stack 0)) (slice_get stack 1) (drop 2 stack)
storing_read s (variable v ∷ x ∷ rest) = refl
storing_read s _ = refl

pub store_row : (s : Scope) (stack : List Datum) → primitive Store s stack ≡ needing 2 s.locked stack (store_read s (option_and_then as_variable (slice_get stack 0)) (slice_get stack 1) (drop 2 stack))
store_row s stack = used_whole 1 a_variable (anything ∷ []) variable_storing s stack ∙ ap (needing 2 s.locked stack) (storing_read s stack)

pub stored_there : (old : Option Datum) (v : ℕ) (x : Datum) (rest : List Datum) → is_some old ≡ true → item_stored old v x rest ≡ stores v x rest
stored_there (Some y) v x rest e = refl
stored_there None v x rest e = absurd (search (rules, e))

pub stored_nowhere : (old : Option Datum) (v : ℕ) (x : Datum) (rest : List Datum) → is_some old ≡ false → item_stored old v x rest ≡ refuses BadArgument
stored_nowhere (Some y) v x rest e = absurd (search (rules, e))
stored_nowhere None v x rest e = refl

pub ruleset name_steps = (fetch_row, execute_row, abort_row, map_drop, length-map)

pub ruleset store_steps = (store_row, stored_there, stored_nowhere, map_drop, length-map, slice_get-map)

-- only EXECUTE looks at the count of the words
pub same_row : (p : Primitive) (words : ℕ) (f : Flat) (stack : List Datum) → p ≢ Execute → family_of p ≡ Stack → primitive p (scope_of words f) stack ≡ primitive p (scope_of 0 f) stack
same_row Execute words f stack h g = absurd (h refl)
same_row _ words f stack h g = refl
