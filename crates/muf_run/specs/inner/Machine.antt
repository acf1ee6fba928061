-- What each instruction does to the data of a frame.
use Rattle.std.specs.Prelude.{ℕ, ◌+◌, ◌-◌, List, [], ◌∷◌, length, drop, nat_lt, if◌then◌else◌, ℤ, pos, negsuc, Option, Some, None, slice_get, Bool, true, false, Result, Ok, Err}
use Rattle.std.specs.Option.{option_and_then}
use Rattle.muf_model.specs.declared.code.Word.{Word}
use Rattle.muf_model.specs.declared.code.Word.TheVariants.{Literal, Variable, Address, Primitive, Call, Bind, Store, Exit, Break, Continue, While, NextIndex, NextPair}
use Rattle.muf_model.specs.declared.code.Closer.{Closer}
use Rattle.muf_model.specs.declared.code.Closer.TheVariants.{Semicolon, Repeat, Until}
use Rattle.muf_model.specs.declared.code.Instr.{Instr}
use Rattle.muf_model.specs.declared.code.Instr.TheVariants.{Plain, Close, When, IfElse, Try, Else, Catch, Begin, For, Each, Unset}
use Rattle.muf_model.specs.declared.code.CodeWord.{CodeWord}
use Rattle.muf_model.specs.declared.code.Code.{Code}
use Rattle.muf_model.specs.declared.fault.MufFault.{MufFault}
use Rattle.muf_model.specs.declared.fault.MufFault.TheVariants.{StackEmpty, StackFull, CallsFull, BadType, BadArgument, BadAddress}
use Rattle.muf_model.specs.declared.prims.Primitive.{Primitive as Name}
use Rattle.muf_model.specs.Prims.{is_local}
use Rattle.muf_model.specs.Datum.{Datum, int, variable, address, items, dict}
use Rattle.muf_model.specs.Measures.{is_true_item}
use Rattle.muf_model.specs.Answer.{Answer, gives, stores, calls, refuses, variable_at, stack_most, too_few}
use Rattle.muf_model.specs.Rows.{primitive}
use Rattle.muf_model.specs.Source.{Turns, indices, pairs}
use Rattle.muf_model.specs.Unit.{calls_most, open_most, constant, has_turn, next_index, values_numbered, keyed}
use Rattle.muf_model.specs.inner.Flat.{FlatMark, loop, guard, back, leave, Flat}
use Rattle.muf_frame.specs.inner.Shown.{locked_by, calls_by, opened_by}
use Rattle.muf_frame.specs.inner.Answers.{int_at}
use Rattle.muf_run.specs.declared.ran.Ran.{Ran}
use Rattle.muf_run.specs.declared.ran.Ran.TheVariants.{Going, Ended, Faulted, Shared, Stuck}
use Rattle.muf_frame.specs.inner.Moves as moves
use Rattle.muf_frame.specs.inner.Moves.{called, scope_of, with_variable, behind, caught}

-- How an instruction ends: with a frame, after so many programs were left; with the end of the process, with or
-- without a fault; or, before it began, with the request for a shared primitive and the frame that stands at it. A frame
-- that fits no code may be stuck.
pub data Next : Type 0 where
  going : ℕ → Flat → Next
  at_end : Next
  broken : MufFault → Next
  asking : Name → Flat → Next
  stuck : Next

-- a fault goes on where it was caught
abbrev pub after_fault : MufFault → Option (ℕ × Flat) → Next
after_fault f (Some r) = going r.0 r.1
after_fault f None = broken f

abbrev pub fault : MufFault → Flat → Next
fault f s = after_fault f (caught f s)

-- EXIT and `;` go back to the nearest call, or end the process
abbrev pub leave_word : Flat → List FlatMark → Next
leave_word s [] = at_end
leave_word s (loop t again after ∷ ms) = leave_word (behind (loop t again after) ms s) ms
leave_word s (guard locked place ∷ ms) = leave_word (behind (guard locked place) ms s) ms
leave_word s (back base place ∷ ms) = going 0 (record (behind (back base place) ms s) { place = place })
leave_word s (leave caller base place ∷ ms) = going 1 (record (behind (leave caller base place) ms s) { place = place })

-- BREAK leaves the nearest loop
abbrev pub leave_loop : Flat → List FlatMark → Next
leave_loop s [] = stuck
leave_loop s (loop t again after ∷ ms) = going 0 (record s { place = after; marks = ms })
leave_loop s (guard locked place ∷ ms) = leave_loop (behind (guard locked place) ms s) ms
leave_loop s (back base place ∷ ms) = stuck
leave_loop s (leave caller base place ∷ ms) = stuck

-- CONTINUE and REPEAT begin the next turn of the nearest loop
abbrev pub next_turn : Flat → List FlatMark → Next
next_turn s [] = stuck
next_turn s (loop t again after ∷ ms) = going 0 (record s { place = again; marks = loop t again after ∷ ms })
next_turn s (guard locked place ∷ ms) = next_turn (behind (guard locked place) ms s) ms
next_turn s (back base place ∷ ms) = stuck
next_turn s (leave caller base place ∷ ms) = stuck

-- a test takes one item and goes one of two ways
abbrev pub tested : List Datum → Flat → (Flat → Next) → (Flat → Next) → Next
tested [] s then_go else_go = fault StackEmpty s
tested (x ∷ rest) s then_go else_go =
    if is_true_item x then then_go (record s { stack = rest }) else else_go (record s { stack = rest })

abbrev pub test : Flat → (Flat → Next) → (Flat → Next) → Next
test s then_go else_go =
    if nat_lt (length s.stack) (locked_by s.marks + 1) then fault (too_few 1 s.stack) s else tested s.stack s then_go else_go

-- a call of a word of the running program
abbrev pub call : Option CodeWord → Flat → Next
call None s = fault BadAddress s
call (Some w) s = if nat_lt (calls_by s.marks) calls_most then going 0 (called w.start w.variables s) else fault CallsFull s

-- goes on as a primitive answers
abbrev pub answered : Code → Answer → Flat → Next
answered code (gives stack) s = going 0 (record s { stack = stack })
answered code (stores v x stack) s = going 0 (with_variable v x (record s { stack = stack }))
answered code (calls w stack) s = call (slice_get code.words w) (record s { stack = stack })
answered code (refuses f) s = fault f s

-- one more loop or TRY, where there is room
abbrev pub opening : Flat → Flat → Next
opening before after = if nat_lt (opened_by before.marks) open_most then going 0 after else fault CallsFull before

-- a stack, where it isn't too long
abbrev pub placed : List Datum → Flat → Next
placed stack s = if nat_lt stack_most (length stack) then fault StackFull s else going 0 (record s { stack = stack })

abbrev pub pushed : Datum → Flat → Next
pushed x s = placed (x ∷ s.stack) s

-- the arguments of a header become the first variables of the call
abbrev pub bound : ℕ → Flat → Next
bound n s = if nat_lt (length s.stack) (locked_by s.marks + n) then fault (too_few n s.stack) s else going 0 (moves.bound n s)

-- the top item goes into a variable that is there
abbrev pub kept_in : Option Datum → ℕ → Datum → List Datum → Flat → Next
kept_in (Some old) v x rest s = going 0 (with_variable v x (record s { stack = rest }))
kept_in None v x rest s = fault BadArgument s

abbrev pub kept : ℕ → List Datum → Flat → Next
kept v [] s = fault StackEmpty s
kept v (x ∷ rest) s = kept_in (variable_at v (scope_of 0 s)) v x rest s

abbrev pub keeping : ℕ → Flat → Next
keeping v s = if nat_lt (length s.stack) (locked_by s.marks + 1) then fault (too_few 1 s.stack) s else kept v s.stack s

-- the test of a FOR's index
abbrev pub index_test : Flat → List FlatMark → Next
index_test s (loop (indices (Some i) last step) again after ∷ ms) =
    if has_turn i last step
    then pushed (int i) (record s { marks = loop (indices (next_index i step) last step) again after ∷ ms })
    else going 0 (record s { place = after; marks = ms })
index_test s (loop (indices None last step) again after ∷ ms) = going 0 (record s { place = after; marks = ms })
index_test s _ = stuck

-- the test of a FOREACH's keys
abbrev pub pair_test : Flat → List FlatMark → Next
pair_test s (loop (pairs ((k, x) ∷ left)) again after ∷ ms) =
    placed (x ∷ k ∷ s.stack) (record s { marks = loop (pairs left) again after ∷ ms })
pair_test s (loop (pairs []) again after ∷ ms) = going 0 (record s { place = after; marks = ms })
pair_test s _ = stuck

-- a word, with the place after it
abbrev pub word_after : Code → Word → Flat → Flat → Next
word_after code (Literal l) at s = pushed (constant l) s
word_after code (Variable v) at s = pushed (variable v.0) s
word_after code (Address w) at s = pushed (address s.program w) s
word_after code (Primitive p) at s =
    if is_local p then answered code (primitive p (scope_of (length code.words) s) s.stack) s else asking p at
word_after code (Call w) at s = call (slice_get code.words w) s
word_after code (Bind n) at s = bound n s
word_after code (Store v) at s = keeping v.0 s
word_after code Exit at s = leave_word s s.marks
word_after code Break at s = leave_loop s s.marks
word_after code Continue at s = next_turn s s.marks
word_after code While at s = test s (λ t. going 0 t) (λ t. leave_loop t t.marks)
word_after code NextIndex at s = index_test s s.marks
word_after code NextPair at s = pair_test s s.marks

abbrev pub word : Code → Word → ℕ → Flat → Next
word code w next at = word_after code w at (record at { place = next })

-- `;`, REPEAT and UNTIL
abbrev pub close : Closer → Flat → Next
close Semicolon s = leave_word s s.marks
close Repeat s = next_turn s s.marks
close Until s = test s (λ t. leave_loop t t.marks) (λ t. next_turn t t.marks)

-- IF and IF with ELSE go on behind it, or at their target
abbrev pub branch : ℕ → Flat → Next
branch to s = test s (λ t. going 0 t) (λ t. going 0 (record t { place = to }))

-- CATCH, when the block reaches it
abbrev pub end_try : ℕ → Flat → List FlatMark → Next
end_try to s (guard locked place ∷ ms) = going 0 (record s { place = to; marks = ms })
end_try to s _ = stuck

-- TRY, with the place behind its CATCH
abbrev pub try_count : Option ℤ → ℕ → Flat → Next
try_count (Some (pos n)) handler s =
    if nat_lt (length s.stack) (locked_by s.marks + (n + 1)) then fault (too_few (n + 1) s.stack) s
    else opening s (record s { stack = drop 1 s.stack; marks = guard (length (drop 1 s.stack) - n) handler ∷ s.marks })
try_count (Some (negsuc n)) handler s = fault BadArgument s
try_count None handler s = fault BadType s

abbrev pub open_try : ℕ → Flat → Next
open_try handler s =
    if nat_lt (length s.stack) (locked_by s.marks + 1) then fault (too_few 1 s.stack) s
    else try_count (int_at 0 s.stack) handler s

-- a loop begins, with the place behind it
abbrev pub turning : Turns → ℕ → ℕ → Flat → Flat
turning t count after s = record s { stack = drop count s.stack; marks = loop t s.place after ∷ s.marks }

-- FOR takes start, end and step
abbrev pub for_count : Option ℤ → Option ℤ → Option ℤ → ℕ → Flat → Next
for_count (Some step) (Some end) (Some start) after s = opening s (turning (indices (Some start) end step) 3 after s)
for_count _ _ _ after s = fault BadType s

abbrev pub open_for : ℕ → Flat → Next
open_for after s =
    if nat_lt (length s.stack) (locked_by s.marks + 3) then fault (too_few 3 s.stack) s
    else for_count (int_at 0 s.stack) (int_at 1 s.stack) (int_at 2 s.stack) after s

-- what a FOREACH goes over
abbrev pub keys_of : Datum → Option Turns
keys_of (items ds) = Some (pairs (values_numbered 0 ds))
keys_of (dict ps) = Some (pairs (keyed ps))
keys_of _ = None

abbrev pub keys_at : List Datum → Option Turns
keys_at stack = option_and_then keys_of (slice_get stack 0)

abbrev pub each_count : Option Turns → ℕ → Flat → Next
each_count (Some t) after s = opening s (turning t 1 after s)
each_count None after s = fault BadType s

abbrev pub open_each : ℕ → Flat → Next
open_each after s =
    if nat_lt (length s.stack) (locked_by s.marks + 1) then fault (too_few 1 s.stack) s
    else each_count (keys_at s.stack) after s

-- An instruction, with the place after it. BEGIN is none of its own.
abbrev pub instr : Code → Instr → ℕ → Flat → Next
instr code (Plain w) next s = word code w next s
instr code (Close c) next s = close c s
instr code (When to) next s = branch to (record s { place = next })
instr code (IfElse to) next s = branch to (record s { place = next })
instr code (Try to) next s = open_try to (record s { place = next })
instr code (Else to) next s = going 0 (record s { place = to })
instr code (Catch to) next s = end_try to s s.marks
instr code (Begin to) next s = stuck
instr code (For to) next s = open_for to (record s { place = next })
instr code (Each to) next s = open_each to (record s { place = next })
instr code Unset next s = stuck

-- how a call that gave this answer and left this frame ended
abbrev pub next_of : Ran → Flat → Next
next_of (Going k) s = going k s
next_of Ended s = at_end
next_of (Faulted f) s = broken f
next_of (Shared p) s = asking p s
next_of Stuck s = stuck

-- how a test that gave this answer and left this frame goes on
abbrev pub tested_as : Result Bool MufFault → Flat → (Flat → Next) → (Flat → Next) → Next
tested_as (Ok true) s then_go else_go = then_go s
tested_as (Ok false) s then_go else_go = else_go s
tested_as (Err f) s then_go else_go = fault f s
