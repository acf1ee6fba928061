-- What each primitive of the stack does. The top of a stack stands first.
use Rattle.std.specs.Prelude.{ℕ, zero, suc, ◌+◌, ◌-◌, List, [], ◌∷◌, ◌++◌, length, take, drop, reverse, Bool, true, false, ◌&&◌, nat_lt, if◌then◌else◌, pos, negsuc, Option, Some, None, slice_set, position}
use Rattle.std.specs.Ordering.{int_eq}
use Rattle.muf_model.specs.declared.fault.MufFault.TheVariants.{StackEmpty, BadType, BadArgument, BadAddress, Aborted}
use Rattle.muf_model.specs.declared.prims.Primitive.{Primitive}
use Rattle.muf_model.specs.declared.prims.Primitive.TheVariants.{Pop, Dup, DupTrue, Swap, Over, Rot, Rotate, Pick, Put, Nip, Tuck, DupN, LDup, PopN, Reverse, Depth, OpenMark, CloseMark, Fetch, Store, IsInt, IsString, IsDbref, IsArray, IsDictionary, IsAddress, IsLock, Execute, Abort}
use Rattle.muf_model.specs.Datum.{Datum, int, text, variable, address, mark}
use Rattle.muf_model.specs.Measures.{is_true_item}
use Rattle.muf_model.specs.Kinds.{is_kind_so}
use Rattle.muf_model.specs.Answer.{Answer, gives, stores, calls, refuses, Scope, PrimitiveEffect, plain, whole, Made, makes, rejects, variable_at, needing, stack_fitting}

abbrev pub popped : List Datum → Made
popped _ = makes []

abbrev pub doubled : List Datum → Made
doubled (x ∷ []) = makes (x ∷ x ∷ [])
doubled _ = rejects StackEmpty

abbrev pub doubled_true : List Datum → Made
doubled_true (x ∷ []) = makes (if is_true_item x then x ∷ x ∷ [] else x ∷ [])
doubled_true _ = rejects StackEmpty

abbrev pub swapped : List Datum → Made
swapped (y ∷ x ∷ []) = makes (x ∷ y ∷ [])
swapped _ = rejects StackEmpty

abbrev pub overed : List Datum → Made
overed (y ∷ x ∷ []) = makes (x ∷ y ∷ x ∷ [])
overed _ = rejects StackEmpty

abbrev pub items_rotated : List Datum → Made
items_rotated (z ∷ y ∷ x ∷ []) = makes (x ∷ z ∷ y ∷ [])
items_rotated _ = rejects StackEmpty

abbrev pub nipped : List Datum → Made
nipped (y ∷ x ∷ []) = makes (y ∷ [])
nipped _ = rejects StackEmpty

abbrev pub tucked : List Datum → Made
tucked (y ∷ x ∷ []) = makes (y ∷ x ∷ y ∷ [])
tucked _ = rejects StackEmpty

-- the deepest of n items goes to the top
abbrev pub rotated_up : ℕ → List Datum → List Datum
rotated_up zero rest = rest
rotated_up (suc n) rest = take 1 (drop n rest) ++ (take n rest ++ drop (suc n) rest)

-- the top goes below the others of n items
abbrev pub rotated_down : ℕ → List Datum → List Datum
rotated_down zero rest = rest
rotated_down (suc n) rest = take n (drop 1 rest) ++ (take 1 rest ++ drop (suc n) rest)

-- ROTATE takes a count of either sign
abbrev pub rotated : Scope → List Datum → Answer
rotated s (int (pos n) ∷ rest) = needing (n + 1) s.locked (int (pos n) ∷ rest) (gives (rotated_up n rest))
rotated s (int (negsuc n) ∷ rest) = needing (suc n + 1) s.locked (int (negsuc n) ∷ rest) (gives (rotated_down (suc n) rest))
rotated s _ = refuses BadType

-- by the count on the top, with what stands below it
abbrev pub by_count : (List Datum → ℕ → Answer) → Scope → List Datum → Answer
by_count answer s (int (pos n) ∷ rest) = answer rest n
by_count answer s _ = refuses BadType

-- the n-th item from the top, from 1
abbrev pub item_picked : List Datum → ℕ → Answer
item_picked rest zero = refuses BadArgument
item_picked rest (suc n) = gives (take 1 (drop n rest) ++ rest)

-- the n-th item below y, from 1, becomes y
abbrev pub item_put_at : List Datum → ℕ → Answer
item_put_at rest zero = refuses BadArgument
item_put_at [] (suc n) = refuses StackEmpty
item_put_at (y ∷ rest) (suc n) = gives (slice_set rest n y)

-- n items once more, and with their count between and behind
abbrev pub doubled_many : List Datum → ℕ → Answer
doubled_many rest n = stack_fitting (take n rest ++ rest)

abbrev pub doubled_list : List Datum → ℕ → Answer
doubled_list rest n = stack_fitting (int (pos n) ∷ (take n rest ++ (int (pos n) ∷ rest)))

abbrev pub popped_many : List Datum → ℕ → Answer
popped_many rest n = gives (drop n rest)

abbrev pub reversed : List Datum → ℕ → Answer
reversed rest n = gives (reverse (take n rest) ++ drop n rest)

abbrev pub is_mark : Datum → Bool
is_mark mark = true
is_mark _ = false

-- the items above the locked part
abbrev pub above_locked : ℕ → List Datum → List Datum
above_locked locked stack = take (length stack - locked) stack

-- the mark gives way to the count of the items above it
abbrev pub mark_counted : Option ℕ → List Datum → Answer
mark_counted (Some n) stack = gives (int (pos n) ∷ (take n stack ++ drop (n + 1) stack))
mark_counted None stack = refuses BadArgument

abbrev pub fetched : Option Datum → List Datum → Answer
fetched (Some x) rest = gives (x ∷ rest)
fetched None rest = refuses BadArgument

abbrev pub fetching : Scope → List Datum → Answer
fetching s (variable v ∷ rest) = fetched (variable_at v s) rest
fetching s _ = refuses BadType

abbrev pub item_stored : Option Datum → ℕ → Datum → List Datum → Answer
item_stored (Some old) v x rest = stores v x rest
item_stored None v x rest = refuses BadArgument

abbrev pub variable_storing : Scope → List Datum → Answer
variable_storing s (variable v ∷ x ∷ rest) = item_stored (variable_at v s) v x rest
variable_storing s _ = refuses BadType

abbrev pub truth_item : Bool → Datum
truth_item true = int (pos 1)
truth_item false = int (pos 0)

-- the answer of a test
abbrev pub item_judged : (Datum → Bool) → List Datum → Made
item_judged test (x ∷ []) = makes (truth_item (test x) ∷ [])
item_judged test _ = rejects StackEmpty

-- the word at an address of the running program
abbrev pub executed : Scope → List Datum → Answer
executed s (address program word ∷ rest) =
    if int_eq program s.program && nat_lt word s.words then calls word rest else refuses BadAddress
executed s _ = refuses BadType

abbrev pub aborted : List Datum → Made
aborted (text t ∷ []) = rejects (Aborted t)
aborted _ = rejects BadType

-- how many items stand above the locked part
abbrev pub counted_above : Scope → List Datum → Answer
counted_above s stack = stack_fitting (int (pos (length stack - s.locked)) ∷ stack)

abbrev pub mark_put : List Datum → Made
mark_put _ = makes (mark ∷ [])

abbrev pub mark_closed : Scope → List Datum → Answer
mark_closed s stack = mark_counted (position is_mark (above_locked s.locked stack)) stack

abbrev pub stack_row : Primitive → Option PrimitiveEffect
stack_row Pop = Some (plain popped)
stack_row Dup = Some (plain doubled)
stack_row DupTrue = Some (plain doubled_true)
stack_row Swap = Some (plain swapped)
stack_row Over = Some (plain overed)
stack_row Rot = Some (plain items_rotated)
stack_row Rotate = Some (whole rotated)
stack_row Pick = Some (whole (by_count item_picked))
stack_row Put = Some (whole (by_count item_put_at))
stack_row Nip = Some (plain nipped)
stack_row Tuck = Some (plain tucked)
stack_row DupN = Some (whole (by_count doubled_many))
stack_row LDup = Some (whole (by_count doubled_list))
stack_row PopN = Some (whole (by_count popped_many))
stack_row Reverse = Some (whole (by_count reversed))
stack_row Depth = Some (whole counted_above)
stack_row OpenMark = Some (plain mark_put)
stack_row CloseMark = Some (whole mark_closed)
stack_row Fetch = Some (whole fetching)
stack_row Store = Some (whole variable_storing)
stack_row IsInt = Some (plain (item_judged (is_kind_so IsInt)))
stack_row IsString = Some (plain (item_judged (is_kind_so IsString)))
stack_row IsDbref = Some (plain (item_judged (is_kind_so IsDbref)))
stack_row IsArray = Some (plain (item_judged (is_kind_so IsArray)))
stack_row IsDictionary = Some (plain (item_judged (is_kind_so IsDictionary)))
stack_row IsAddress = Some (plain (item_judged (is_kind_so IsAddress)))
stack_row IsLock = Some (plain (item_judged (is_kind_so IsLock)))
stack_row Execute = Some (whole executed)
stack_row Abort = Some (plain aborted)
stack_row _ = None
