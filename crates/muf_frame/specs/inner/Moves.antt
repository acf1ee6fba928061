-- What calls, variables and faults do to the data of a frame.
use Rattle.std.specs.Prelude.{◌≡◌, Bool, true, false, ℕ, suc, ◌+◌, ◌-◌, List, [], ◌∷◌, ◌++◌, length, take, drop, reverse, nat_lt, if◌then◌else◌, ℤ, negsuc, Option, Some, None, slice_set}
use Rattle.muf_model.specs.declared.fault.MufFault.{MufFault}
use Rattle.muf_model.specs.Faults.{fault_text, is_final}
use Rattle.muf_model.specs.Datum.{Datum, text}
use Rattle.muf_model.specs.Answer.{Scope, owned_first, call_first}
use Rattle.muf_model.specs.Source.{variables_owned_by, with_owned, zeros, fitted}
use Rattle.muf_model.specs.Unit.{lowest_items}
use Rattle.muf_model.specs.inner.Flat.{FlatMark, loop, guard, back, leave, Flat}
use Rattle.muf_frame.specs.inner.Shown.{locked_by}

-- the frame of a process that has run nothing, with its argument on the stack
abbrev pub fresh : List ℕ → Flat
fresh argument = record { stack = text argument ∷ []; common = zeros 4; owned = []; variables = []; base = 0; program = negsuc 0; place = 0; marks = [] }

-- the variables of a program, as many as it has, those that it had before with their values
abbrev pub owning : ℤ → ℕ → Flat → Flat
owning number count f = record f { owned = with_owned number (fitted count (variables_owned_by number f.owned)) f.owned }

-- a word begins at a place, with so many variables that are 0
abbrev pub begun : ℤ → ℕ → ℕ → Flat → Flat
begun number start count f = record f { variables = f.variables ++ zeros count; base = length f.variables; program = number; place = start }

-- a call of a word, from the place behind the item that calls it
abbrev pub called : ℕ → ℕ → Flat → Flat
called start count f = begun f.program start count (record f { marks = back f.base f.place ∷ f.marks })

-- a call of a word of a program, in the same way
abbrev pub entered : ℤ → ℕ → ℕ → ℕ → Flat → Flat
entered number owned start count f = begun number start count (owning number owned (record f { marks = leave f.program f.base f.place ∷ f.marks }))

-- so many items at the top become the first variables of the innermost call, the top one the last of them
abbrev pub bound : ℕ → Flat → Flat
bound n f = record f {
  stack = drop n f.stack;
  variables = take f.base f.variables ++ (reverse (take n f.stack) ++ drop (f.base + n) f.variables);
}

-- what a primitive may look at beside the stack, in a program of so many words
abbrev pub scope_of : ℕ → Flat → Scope
scope_of words f = record {
  common = f.common;
  owned = variables_owned_by f.program f.owned;
  variables = drop f.base f.variables;
  program = f.program;
  words = words;
  locked = locked_by f.marks;
}

-- the variable of a number has another value
abbrev pub with_variable : ℕ → Datum → Flat → Flat
with_variable v x f =
    if nat_lt v owned_first then record f { common = slice_set f.common v x }
    else (if nat_lt v call_first
    then record f { owned = with_owned f.program (slice_set (variables_owned_by f.program f.owned) (v - owned_first) x) f.owned }
    else record f { variables = slice_set f.variables (f.base + (v - call_first)) x })

-- the frame behind its innermost mark, which stands before the others
abbrev pub behind : FlatMark → List FlatMark → Flat → Flat
behind (loop t again after) ms f = record f { marks = ms }
behind (guard locked place) ms f = record f { marks = ms }
behind (back base place) ms f = record f { variables = take f.base f.variables; base = base; marks = ms }
behind (leave caller base place) ms f = record f { variables = take f.base f.variables; base = base; program = caller; marks = ms }

-- A fault with this text that has left k programs goes back to the nearest TRY, with the stack cut to what that TRY
-- locks and the text on it. Without one there is nothing to go back to.
abbrev pub unwound : List ℕ → ℕ → Flat → List FlatMark → Option (ℕ × Flat)
unwound bytes k s [] = None
unwound bytes k s (loop t again after ∷ ms) = unwound bytes k (behind (loop t again after) ms s) ms
unwound bytes k s (guard locked place ∷ ms) =
    Some (k, record s { stack = text bytes ∷ lowest_items locked s.stack; place = place; marks = ms })
unwound bytes k s (back base place ∷ ms) = unwound bytes k (behind (back base place) ms s) ms
unwound bytes k s (leave caller base place ∷ ms) = unwound bytes (suc k) (behind (leave caller base place) ms s) ms

-- a fault, of which those that are final go past every TRY
abbrev pub caught : MufFault → Flat → Option (ℕ × Flat)
caught f s = if is_final f then None else unwound (fault_text f) 0 s s.marks

-- whether there is a TRY
abbrev pub has_guard : List FlatMark → Bool
has_guard [] = false
has_guard (loop t again after ∷ ms) = has_guard ms
has_guard (guard locked place ∷ ms) = true
has_guard (back base place ∷ ms) = has_guard ms
has_guard (leave caller base place ∷ ms) = has_guard ms

-- how a fault ended: where it was caught, how many programs it left, and else the frame as it was
abbrev pub Unwinds : MufFault → Option ℕ → Flat → Flat → Type 0
Unwinds f (Some k) old new = caught f old ≡ Some (k, new)
Unwinds f None old new = (caught f old ≡ None) × (new ≡ old)
