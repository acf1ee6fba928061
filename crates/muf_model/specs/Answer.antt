-- What a primitive answers, and the tests that its row begins with.
use Rattle.std.specs.Prelude.{ℕ, ◌+◌, ◌-◌, List, ◌++◌, length, nat_lt, if◌then◌else◌, ℤ, Option, Some, None, slice_get}
use Rattle.muf_model.specs.declared.fault.MufFault.{MufFault}
use Rattle.muf_model.specs.declared.fault.MufFault.TheVariants.{StackEmpty, StackFull, StackLocked}
use Rattle.muf_model.specs.Datum.{Datum}

-- The stack after a primitive, its top first. A primitive may also set a variable, by its number, or call a word of
-- the running program, by its number. Or it is refused.
pub data Answer : Type 0 where
  gives : List Datum → Answer
  stores : ℕ → Datum → List Datum → Answer
  calls : ℕ → List Datum → Answer
  refuses : MufFault → Answer

-- What a primitive makes of the items that it takes, their tops first: the items that take their place, or a fault.
pub data Made : Type 0 where
  makes : List Datum → Made
  rejects : MufFault → Made

-- What a primitive may look at beside the stack: the variables of the process, of the running program and of the
-- running call, the number of that program and how many words it has, and how many items, at the bottom of the
-- stack, are locked.
pub record Scope : Type 0 where
  pub common : List Datum
  pub owned : List Datum
  pub variables : List Datum
  pub program : ℤ
  pub words : ℕ
  pub locked : ℕ

-- What a primitive does behind the tests that all begin with: most see the items that they take and no more, and a few
-- the whole stack and what stands beside it.
pub data PrimitiveEffect : Type 0 where
  plain : (List Datum → Made) → PrimitiveEffect
  whole : (Scope → List Datum → Answer) → PrimitiveEffect

-- the number of the first variable of the program, and of the call
abbrev pub owned_first : ℕ
owned_first = 4

abbrev pub call_first : ℕ
call_first = 68

-- the variable of a number
abbrev pub variable_at : ℕ → Scope → Option Datum
variable_at v s =
    if nat_lt v owned_first then slice_get s.common v
    else (if nat_lt v call_first then slice_get s.owned (v - owned_first) else slice_get s.variables (v - call_first))

-- the most items on a stack
abbrev pub stack_most : ℕ
stack_most = 1024

-- the fault of too few items: locked where the whole stack has enough
abbrev pub too_few : ℕ → List Datum → MufFault
too_few n stack = if nat_lt (length stack) n then StackEmpty else StackLocked

-- n items above the locked part, or the fault of too few
abbrev pub needing : ℕ → ℕ → List Datum → Answer → Answer
needing n locked stack answer = if nat_lt (length stack) (locked + n) then refuses (too_few n stack) else answer

-- a stack, or the fault of one that is too long
abbrev pub stack_fitting : List Datum → Answer
stack_fitting stack = if nat_lt stack_most (length stack) then refuses StackFull else gives stack

-- what is made takes the place of n items, and a stack that grows by it has to fit
abbrev pub items_put : ℕ → Made → List Datum → Answer
items_put n (makes items) rest = if nat_lt n (length items) then stack_fitting (items ++ rest) else gives (items ++ rest)
items_put n (rejects f) rest = refuses f

-- behind a test that may have refused
abbrev pub answer_unless : Option MufFault → Answer → Answer
answer_unless (Some f) answer = refuses f
answer_unless None answer = answer
