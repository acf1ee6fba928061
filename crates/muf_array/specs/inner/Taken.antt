-- What the primitives of lists and dictionaries answer, by the items that they take.
use Rattle.std.specs.Prelude.{ℕ, ◌+◌, ◌*◌, List, [], take, drop, reverse, Option, Some, None, ℤ, pos, negsuc}
use Rattle.muf_model.specs.declared.fault.MufFault.{MufFault}
use Rattle.muf_model.specs.declared.fault.MufFault.TheVariants.{BadType, BadArgument}
use Rattle.muf_model.specs.declared.value.MapKey.{MapKey}
use Rattle.muf_model.specs.Datum.{Datum, items, dict, data_of, pairs_of}
use Rattle.muf_model.specs.Entries.{gathered}
use Rattle.muf_model.specs.Answer.{Answer, refuses, Made, items_put, needing}
use Rattle.muf_model.specs.ArrayRows.{valued, appended_to, joined_held}
use Rattle.muf_array.specs.inner.Shapes.{of_held, at_held, refusal, pairs_in}

abbrev pub one_read : (Datum → Made) → Option Datum → List Datum → Answer
one_read f (Some a) rest = items_put 1 (of_held f a) rest
one_read f None rest = refuses BadType

abbrev pub held_read : (Datum → MapKey → Made) → Option MapKey → Option Datum → List Datum → Answer
held_read f (Some k) (Some a) rest = items_put 2 (at_held f a k) rest
held_read f _ _ rest = refuses BadType

abbrev pub item_read : (Datum → Datum → MapKey → Made) → Option MapKey → Option Datum → Option Datum → List Datum → Answer
item_read f (Some k) (Some a) (Some x) rest = items_put 3 (at_held (f x) a k) rest
item_read f _ _ _ rest = refuses BadType

abbrev pub append_read : Option Datum → Option Datum → List Datum → Answer
append_read (Some a) (Some x) rest = items_put 2 (appended_to a x) rest
append_read _ _ rest = refuses BadType

abbrev pub joins_read : Option (List ℕ) → Option Datum → List Datum → Answer
joins_read (Some s) (Some a) rest = items_put 2 (of_held (joined_held s) a) rest
joins_read _ _ rest = refuses BadType

-- the first fault of what is taken

abbrev pub held_refused : (Datum → MapKey → Made) → MapKey → Option Datum → Option MufFault
held_refused f k (Some a) = refusal (at_held f a k)
held_refused f k None = Some BadType

abbrev pub item_refused : (Datum → Datum → MapKey → Made) → MapKey → Option Datum → Option Datum → Option MufFault
item_refused f k (Some a) (Some x) = refusal (at_held (f x) a k)
item_refused f k _ _ = Some BadType

abbrev pub append_refused : Option Datum → Option Datum → Option MufFault
append_refused (Some a) (Some x) = refusal (appended_to a x)
append_refused _ _ = Some BadType

-- counted items

abbrev pub list_read : ℕ → List Datum → Answer
list_read n stack = items_put (n + 1) (valued (items (data_of (reverse (take n (drop 1 stack)))))) (drop (n + 1) stack)

abbrev pub pairs_read : ℕ → Option (List (MapKey × Datum)) → List Datum → Answer
pairs_read n (Some ps) rest = items_put (n + n + 1) (valued (dict (pairs_of (gathered ps)))) rest
pairs_read n None rest = refuses BadType

abbrev pub dict_read : ℕ → List Datum → Answer
dict_read n stack = pairs_read n (pairs_in n (drop 1 stack)) (drop (n + n + 1) stack)

-- so many items for each that the top counts
abbrev pub by_top : ℕ → (ℕ → List Datum → Answer) → ℕ → List Datum → Option ℤ → Answer
by_top each f locked stack (Some (pos n)) = needing (each * n + 1) locked stack (f n stack)
by_top each f locked stack (Some (negsuc n)) = refuses BadArgument
by_top each f locked stack None = refuses BadType
