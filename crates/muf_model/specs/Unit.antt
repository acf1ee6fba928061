-- One unit of a running program.
use Rattle.std.specs.Prelude.{ℕ, zero, suc, ◌+◌, ◌-◌, List, [], ◌∷◌, ◌++◌, length, take, drop, reverse, Bool, nat_lt, int_lt, int_le, if◌then◌else◌, ℤ, pos, negsuc, ◌+ℤ◌, Option, Some, None, slice_get}
use Rattle.muf_model.specs.declared.code.Word.{Word}
use Rattle.muf_model.specs.declared.code.Word.TheVariants.{Literal, Variable, Address, Primitive, Call, Bind, Store, Exit, Break, Continue, While, NextIndex, NextPair}
use Rattle.muf_model.specs.declared.code.Literal.{Literal as Constant}
use Rattle.muf_model.specs.declared.code.Literal.TheVariants.{Int, Text, Object}
use Rattle.muf_model.specs.declared.code.Closer.{Closer}
use Rattle.muf_model.specs.declared.code.Closer.TheVariants.{Semicolon, Repeat, Until}
use Rattle.muf_model.specs.declared.fault.MufFault.{MufFault}
use Rattle.muf_model.specs.declared.fault.MufFault.TheVariants.{StackEmpty, CallsFull, BadType, BadArgument, BadAddress}
use Rattle.muf_model.specs.declared.prims.Primitive.{Primitive as Name}
use Rattle.muf_model.specs.Prims.{is_local}
use Rattle.muf_model.specs.Faults.{fault_text, is_final}
use Rattle.muf_model.specs.Datum.{Datum, int, text, object, variable, address, items, dict, Data, no_data, datum, Pairs, no_pairs, pair}
use Rattle.muf_model.specs.Measures.{is_true_item}
use Rattle.muf_model.specs.Entries.{key_datum}
use Rattle.muf_model.specs.Answer.{Answer, gives, stores, calls, refuses, variable_at, needing, stack_fitting, too_few}
use Rattle.muf_model.specs.StackRows.{item_stored}
use Rattle.muf_model.specs.Rows.{primitive}
use Rattle.muf_model.specs.Tree.{Fork, if_word, try_word, Ring, begin_word, for_word, each_word, Block, stop, word, when, fork, ring, BlockEnd, closes, hops, then_block, Definition}
use Rattle.muf_model.specs.Source.{Turns, plain, indices, pairs, Mark, looping, trying, calling, entering, Source, locked_of, calls_running, open_of, scope_of, with_variable, word_called}

-- How a unit ends: with a state, after so many programs were left; with the end of the process, with or without a
-- fault; or, before it began, with the request for a shared primitive, and the state that stands at it. A state whose
-- marks aren't those that its items ask for may be stuck; one that is nested never is.
pub data Outcome : Type 0 where
  goes : ℕ → Source → Outcome
  ended : Outcome
  faulted : MufFault → Outcome
  asks : Name → Source → Outcome
  stuck : Outcome

-- the most calls that run at once beside the first word, and the most open loops and TRYs
abbrev pub calls_most : ℕ
calls_most = 511

abbrev pub open_most : ℕ
open_most = 512

-- the lowest items of a stack
abbrev pub lowest_items : ℕ → List Datum → List Datum
lowest_items n stack = drop (length stack - n) stack

-- A fault that has left k programs goes back to the nearest TRY, with the stack cut to what that TRY locks and the
-- fault's text on it.
abbrev pub unwind : MufFault → ℕ → Source → List Mark → Outcome
unwind f k s [] = faulted f
unwind f k s (looping t round c last next end ∷ ms) = unwind f k s ms
unwind f k s (trying locked next end ∷ ms) =
    goes k (record s { stack = text (fault_text f) ∷ lowest_items locked s.stack; now = next; end = end; marks = ms })
unwind f k s (calling saved next end ∷ ms) = unwind f k (record s { variables = saved }) ms
unwind f k s (entering caller saved next end ∷ ms) = unwind f (suc k) (record s { variables = saved; program = caller }) ms

-- a fault, of which those that are final go past every TRY
abbrev pub fault_met : MufFault → Source → Outcome
fault_met f s = if is_final f then faulted f else unwind f 0 s s.marks

-- EXIT and `;` go back to the nearest call, or end the process
abbrev pub leave_word : Source → List Mark → Outcome
leave_word s [] = ended
leave_word s (looping t round c last next end ∷ ms) = leave_word s ms
leave_word s (trying locked next end ∷ ms) = leave_word s ms
leave_word s (calling saved next end ∷ ms) = goes 0 (record s { variables = saved; now = next; end = end; marks = ms })
leave_word s (entering caller saved next end ∷ ms) =
    goes 1 (record s { variables = saved; program = caller; now = next; end = end; marks = ms })

-- BREAK leaves the nearest loop; there is one in the same word
abbrev pub leave_loop : Source → List Mark → Outcome
leave_loop s [] = stuck
leave_loop s (looping t round c last next end ∷ ms) = goes 0 (record s { now = next; end = end; marks = ms })
leave_loop s (trying locked next end ∷ ms) = leave_loop s ms
leave_loop s (calling saved next end ∷ ms) = stuck
leave_loop s (entering caller saved next end ∷ ms) = stuck

-- CONTINUE and REPEAT begin the next turn of the nearest loop; there is one in the same word
abbrev pub next_round : Source → List Mark → Outcome
next_round s [] = stuck
next_round s (looping t round c last next end ∷ ms) =
    goes 0 (record s { now = round; end = closes c last; marks = looping t round c last next end ∷ ms })
next_round s (trying locked next end ∷ ms) = next_round s ms
next_round s (calling saved next end ∷ ms) = stuck
next_round s (entering caller saved next end ∷ ms) = stuck

-- a test takes one item and goes one of two ways
abbrev pub item_tested : List Datum → Source → (Source → Outcome) → (Source → Outcome) → Outcome
item_tested [] s then_go else_go = fault_met StackEmpty s
item_tested (x ∷ rest) s then_go else_go =
    if is_true_item x then then_go (record s { stack = rest }) else else_go (record s { stack = rest })

abbrev pub test : Source → (Source → Outcome) → (Source → Outcome) → Outcome
test s then_go else_go =
    if nat_lt (length s.stack) (locked_of s.marks + 1) then fault_met (too_few 1 s.stack) s else item_tested s.stack s then_go else_go

-- a call of a word of the running program, from the state behind the item that calls it
abbrev pub word_call : Option Definition → Source → Outcome
word_call None s = fault_met BadAddress s
word_call (Some d) s = if nat_lt (calls_running s.marks) calls_most then goes 0 (word_called d s) else fault_met CallsFull s

-- goes on as a primitive answers, from the state behind it
abbrev pub primitive_answered : Answer → Source → Outcome
primitive_answered (gives stack) s = goes 0 (record s { stack = stack })
primitive_answered (stores v x stack) s = goes 0 (with_variable v x (record s { stack = stack }))
primitive_answered (calls w stack) s = word_call (slice_get s.program.tree.words w) (record s { stack = stack })
primitive_answered (refuses f) s = fault_met f s

-- one more loop or TRY, where there is room; the fault comes in the state before
abbrev pub construct_opening : Source → Source → Outcome
construct_opening before after = if nat_lt (open_of before.marks) open_most then goes 0 after else fault_met CallsFull before

-- the value that a literal stands for
abbrev pub constant : Constant → Datum
constant (Int n) = int n
constant (Text t) = text t
constant (Object d) = object d.0

abbrev pub pushed : Datum → Source → Outcome
pushed x s = primitive_answered (stack_fitting (x ∷ s.stack)) s

-- the arguments of a header, the last one on the top, become the first variables of the call
abbrev pub bound : ℕ → Source → Outcome
bound n s =
    if nat_lt (length s.stack) (locked_of s.marks + n) then fault_met (too_few n s.stack) s
    else goes 0 (record s { stack = drop n s.stack; variables = reverse (take n s.stack) ++ drop n s.variables })

-- the top item goes into a variable
abbrev pub top_kept : ℕ → List Datum → Source → Answer
top_kept v [] s = refuses StackEmpty
top_kept v (x ∷ rest) s = item_stored (variable_at v (scope_of s)) v x rest

abbrev pub keeping : ℕ → Source → Outcome
keeping v s = primitive_answered (needing 1 (locked_of s.marks) s.stack (top_kept v s.stack s)) s

-- whether a loop makes a turn at this index
abbrev pub has_turn : ℤ → ℤ → ℤ → Bool
has_turn i end step = if int_lt (pos 0) step then int_le i end else int_le end i

-- the sum, where it fits 32 bits
abbrev pub next_index : ℤ → ℤ → Option ℤ
next_index i step =
    if int_lt (i +ℤ step) (negsuc 2147483647) then None
    else (if int_lt (pos 2147483647) (i +ℤ step) then None else Some (i +ℤ step))

-- the test of a FOR's index, which is pushed for each turn
abbrev pub index_test : Source → List Mark → Outcome
index_test s (looping (indices (Some i) last step) round c line next end ∷ ms) =
    if has_turn i last step
    then primitive_answered (stack_fitting (int i ∷ s.stack)) (record s { marks = looping (indices (next_index i step) last step) round c line next end ∷ ms })
    else goes 0 (record s { now = next; end = end; marks = ms })
index_test s (looping (indices None last step) round c line next end ∷ ms) = goes 0 (record s { now = next; end = end; marks = ms })
index_test s _ = stuck

-- the test of a FOREACH's keys, of which one is pushed for each turn with its value
abbrev pub pair_test : Source → List Mark → Outcome
pair_test s (looping (pairs ((k, x) ∷ left)) round c line next end ∷ ms) =
    primitive_answered (stack_fitting (x ∷ k ∷ s.stack)) (record s { marks = looping (pairs left) round c line next end ∷ ms })
pair_test s (looping (pairs []) round c line next end ∷ ms) = goes 0 (record s { now = next; end = end; marks = ms })
pair_test s _ = stuck

-- a word, from the state at it and the state behind it
abbrev pub word_unit : Word → Source → Source → Outcome
word_unit (Literal l) at s = pushed (constant l) s
word_unit (Variable v) at s = pushed (variable v.0) s
word_unit (Address w) at s = pushed (address s.program.number w) s
word_unit (Primitive p) at s = if is_local p then primitive_answered (primitive p (scope_of s) s.stack) s else asks p at
word_unit (Call w) at s = word_call (slice_get s.program.tree.words w) s
word_unit (Bind n) at s = bound n s
word_unit (Store v) at s = keeping v.0 s
word_unit Exit at s = leave_word s s.marks
word_unit Break at s = leave_loop s s.marks
word_unit Continue at s = next_round s s.marks
word_unit While at s = test s (λ t. goes 0 t) (λ t. leave_loop t t.marks)
word_unit NextIndex at s = index_test s s.marks
word_unit NextPair at s = pair_test s s.marks

abbrev pub close_unit : Closer → Source → Outcome
close_unit Semicolon s = leave_word s s.marks
close_unit Repeat s = next_round s s.marks
close_unit Until s = test s (λ t. leave_loop t t.marks) (λ t. next_round t t.marks)

-- CATCH, when the block reaches it, ends the TRY, which is the innermost mark
abbrev pub end_try : Source → List Mark → Outcome
end_try s (trying locked next end ∷ ms) = goes 0 (record s { marks = ms })
end_try s _ = stuck

abbrev pub hop_unit : Fork → Source → Outcome
hop_unit if_word s = goes 0 s
hop_unit try_word s = end_try s s.marks

abbrev pub end_unit : BlockEnd → Source → Outcome
end_unit (closes c line) s = close_unit c s
end_unit (hops k line next end) s = hop_unit k (record s { now = next; end = end })

-- TRY takes n, and locks all but the n items below it. It goes into its block, or after a fault behind CATCH.
abbrev pub try_count : List Datum → Source → Block → BlockEnd → Block → Outcome
try_count (int (pos n) ∷ rest) s block end handler =
    if nat_lt (length s.stack) (locked_of s.marks + (n + 1)) then fault_met (too_few (n + 1) s.stack) s
    else construct_opening s (record s { stack = rest; now = block; end = end; marks = trying (length rest - n) handler s.end ∷ s.marks })
try_count (int (negsuc n) ∷ rest) s block end handler = fault_met BadArgument s
try_count _ s block end handler = fault_met BadType s

abbrev pub try_unit : Source → Block → BlockEnd → Block → Outcome
try_unit s block end handler =
    if nat_lt (length s.stack) (locked_of s.marks + 1) then fault_met (too_few 1 s.stack) s else try_count s.stack s block end handler

-- IF and TRY, from the state behind the choice
abbrev pub fork_unit : Fork → Block → ℕ → Block → Source → Outcome
fork_unit if_word a mid b s =
    test s (λ t. goes 0 (record t { now = a; end = hops if_word mid t.now t.end })) (λ t. goes 0 (record t { now = then_block b t.now }))
fork_unit try_word a mid b s = try_unit s a (hops try_word mid s.now s.end) (then_block b s.now)

-- a loop begins, from the state behind it
abbrev pub turning : Turns → List Datum → Block → Closer → ℕ → Source → Source
turning t stack body c last s =
    record s { stack = stack; now = body; end = closes c last; marks = looping t body c last s.now s.end ∷ s.marks }

-- FOR takes start, end and step
abbrev pub for_count : List Datum → Source → Block → Closer → ℕ → Outcome
for_count (int step ∷ int end ∷ int start ∷ rest) s body c last =
    construct_opening s (turning (indices (Some start) end step) rest body c last s)
for_count _ s body c last = fault_met BadType s

abbrev pub for_unit : Source → Block → Closer → ℕ → Outcome
for_unit s body c last =
    if nat_lt (length s.stack) (locked_of s.marks + 3) then fault_met (too_few 3 s.stack) s else for_count s.stack s body c last

-- the keys of a list from n on, and of a dictionary, each with its value
abbrev pub values_numbered : ℕ → Data → List (Datum × Datum)
values_numbered n no_data = []
values_numbered n (datum d ds) = (int (pos n), d) ∷ values_numbered (suc n) ds

abbrev pub keyed : Pairs → List (Datum × Datum)
keyed no_pairs = []
keyed (pair k d ps) = (key_datum k, d) ∷ keyed ps

-- FOREACH takes a list or dictionary
abbrev pub each_count : List Datum → Source → Block → Closer → ℕ → Outcome
each_count (items ds ∷ rest) s body c last = construct_opening s (turning (pairs (values_numbered 0 ds)) rest body c last s)
each_count (dict ps ∷ rest) s body c last = construct_opening s (turning (pairs (keyed ps)) rest body c last s)
each_count _ s body c last = fault_met BadType s

abbrev pub each_unit : Source → Block → Closer → ℕ → Outcome
each_unit s body c last =
    if nat_lt (length s.stack) (locked_of s.marks + 1) then fault_met (too_few 1 s.stack) s else each_count s.stack s body c last

-- FOR and FOREACH, from the state behind the loop; BEGIN is no unit
abbrev pub ring_unit : Ring → Block → Closer → ℕ → Source → Outcome
ring_unit begin_word body c last s = stuck
ring_unit for_word body c last s = for_unit s body c last
ring_unit each_word body c last s = each_unit s body c last

-- A state in which no BEGIN comes next; or the state at a BEGIN that opens too many.
pub data Settled : Type 0 where
  ready : Source → Settled
  crowded : Source → Settled

-- BEGIN takes no unit: the state goes past all that come next
abbrev pub settle_at : Block → Source → Settled
settle_at stop s = ready s
settle_at (word line w next) s = ready s
settle_at (when line a next) s = ready s
settle_at (fork k line a mid b next) s = ready s
settle_at (ring for_word line body c last next) s = ready s
settle_at (ring each_word line body c last next) s = ready s
settle_at (ring begin_word line body c last next) s =
    if nat_lt (open_of s.marks) open_most
    then settle_at body (turning plain s.stack body c last (record s { now = next }))
    else crowded s

abbrev pub settle : Source → Settled
settle s = settle_at s.now s

-- what a settled state does next
abbrev pub act_at : Block → Source → Outcome
act_at stop s = end_unit s.end s
act_at (word line w next) s = word_unit w s (record s { now = next })
act_at (when line a next) s =
    test (record s { now = next }) (λ t. goes 0 (record t { now = then_block a t.now })) (λ t. goes 0 t)
act_at (fork k line a mid b next) s = fork_unit k a mid b (record s { now = next })
act_at (ring k line body c last next) s = ring_unit k body c last (record s { now = next })

abbrev pub act : Settled → Outcome
act (ready s) = act_at s.now s
act (crowded s) = fault_met CallsFull s

-- one unit
abbrev pub unit : Source → Outcome
unit s = act (settle s)

-- goes on from where a unit went, unless that left a program
abbrev pub and_then : Outcome → (Source → Outcome) → Outcome
and_then (goes zero s) next = next s
and_then (goes (suc k) s) next = goes (suc k) s
and_then ended next = ended
and_then stuck next = stuck
and_then (faulted f) next = faulted f
and_then (asks p s) next = asks p s

-- at most n units, up to one that leaves the running program, ends the process or asks for a shared primitive
abbrev pub units : ℕ → Source → Outcome
units zero s = goes 0 s
units (suc n) s = and_then (unit s) (units n)
