-- What a primitive of the stack does, and what it looks at.
use Rattle.std.specs.Prelude.{◌≡◌, ℕ, ◌-◌, ℤ, List, [], ◌∷◌, Bool, true, false, Option, Some, None, Result, Ok, Err}
use Rattle.muf_model.specs.Datum.{Datum, variable, address}
use Rattle.muf_model.specs.declared.prims.Primitive.{Primitive}
use Rattle.muf_model.specs.declared.prims.Primitive.TheVariants.{Pop, Dup, DupTrue, Swap, Over, Rot, Rotate, Pick, Put, Nip, Tuck, DupN, LDup, PopN, Reverse, Depth, OpenMark, CloseMark, Fetch, Store, IsInt, IsString, IsDbref, IsArray, IsDictionary, IsAddress, IsLock, Abort}
use Rattle.muf_model.specs.Answer.{Answer, calls, refuses, whole}
use Rattle.muf_model.specs.Needs.{counts, anything, an_int}
use Rattle.muf_model.specs.Ladder.{times}
use Rattle.muf_model.specs.Rows.{primitive_used}
use Rattle.muf_model.specs.Measures.{is_true_item}
use Rattle.muf_model.specs.StackRows.{is_mark, by_count}
use Rattle.muf_frame.specs.declared.fault.PrimFault.{PrimFault}
use Rattle.muf_frame.specs.declared.fault.PrimFault.TheVariants.{Fault, NoMemory}
use Rattle.muf_frame.specs.inner.Shown.{Shown, flat}
use Rattle.muf_frame.specs.inner.Moves.{scope_of}
use Rattle.muf_frame.specs.inner.Answers.{Became}
use Rattle.prim_stack.specs.declared.table.Done.{Done}
use Rattle.prim_stack.specs.declared.table.Done.TheVariants.{Kept, Calls}

-- the frame is as the answer says, and unchanged where that refuses; want of memory says nothing
abbrev pub Does : Answer → Shown → Shown → Result Done PrimFault → Type 0
Does a old new (Ok Kept) = Became a (flat old) (flat new)
Does a old new (Ok (Calls w)) = (a ≡ calls w (flat new).stack) × (new ≡ record old { stack = new.stack })
Does a old new (Err (Fault f)) = (a ≡ refuses f) × (new ≡ old)
Does a old new (Err NoMemory) = Unit {0}

-- an answer by the count on the top, and by what stands below that, with so many fixed items
abbrev pub counting : ℕ → Shown → (List Datum → ℕ → Answer) → Answer
counting fixed f answer =
    primitive_used 1 (counts (an_int ∷ times (fixed - 1) (anything ∷ [])) (anything ∷ []) []) (Some (whole (by_count answer))) (scope_of 0 (flat f)) (flat f).stack

-- whether a mark is there
abbrev pub mark_in : Option Datum → Bool
mark_in (Some x) = is_mark x
mark_in None = false

-- whether a true item is there
abbrev pub true_in : Option Datum → Bool
true_in (Some x) = is_true_item x
true_in None = false

-- the variable and the address that a value is
abbrev pub as_variable : Datum → Option ℕ
as_variable (variable v) = Some v
as_variable _ = None

abbrev pub as_address : Datum → Option (ℤ × ℕ)
as_address (address program word) = Some (program, word)
as_address _ = None

-- the primitives of the stack that take no memory, beside EXECUTE
abbrev pub moves : Primitive → Bool
moves Pop = true
moves Swap = true
moves Rot = true
moves Rotate = true
moves Put = true
moves Nip = true
moves PopN = true
moves Reverse = true
moves Depth = true
moves OpenMark = true
moves CloseMark = true
moves Store = true
moves IsInt = true
moves IsString = true
moves IsDbref = true
moves IsArray = true
moves IsDictionary = true
moves IsAddress = true
moves IsLock = true
moves _ = false

-- those that copy items or texts
abbrev pub copies : Primitive → Bool
copies Dup = true
copies DupTrue = true
copies Over = true
copies Tuck = true
copies Pick = true
copies DupN = true
copies LDup = true
copies Fetch = true
copies Abort = true
copies _ = false

-- the answer is no want of memory
abbrev pub HasMemory : Result Done PrimFault → Type 0
HasMemory (Ok d) = Unit {0}
HasMemory (Err (Fault f)) = Unit {0}
HasMemory (Err NoMemory) = ⊥
