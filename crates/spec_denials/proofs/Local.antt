-- No unit that needs no world ends by a denial.
use Rattle.std.proofs.Common.{ℕ, suc, ◌+◌, ◌-◌, List, [], ◌∷◌, ◌++◌, take, reverse, drop, Bool, true, false, cond}
use Rattle.std.specs.Prelude.{length, nat_lt, pos, negsuc, Option, Some, None, slice_get}
use Rattle.muf_model.specs.declared.code.Word.{Word}
use Rattle.muf_model.specs.declared.code.Word.TheVariants.{Literal, Variable, Address, Primitive, Call, Bind, Store, Exit, Break, Continue, While, NextIndex, NextPair}
use Rattle.muf_model.specs.declared.code.Closer.{Closer}
use Rattle.muf_model.specs.declared.code.Closer.TheVariants.{Semicolon, Repeat, Until}
use Rattle.muf_model.specs.declared.fault.MufFault.{MufFault}
use Rattle.muf_model.specs.declared.fault.MufFault.TheVariants.{StackEmpty, CallsFull, BadType, BadArgument, BadAddress}
use Rattle.muf_model.specs.declared.prims.Primitive.{Primitive as Name}
use Rattle.muf_model.specs.Prims.{is_local}
use Rattle.muf_model.specs.Faults.{is_final}
use Rattle.muf_model.specs.Datum.{Datum, int, variable, address, items, dict}
use Rattle.muf_model.specs.Answer.{Answer, gives, stores, calls, refuses, variable_at, too_few, needing, stack_fitting}
use Rattle.muf_model.specs.Rows.{primitive}
use Rattle.muf_model.specs.Tree.{Fork, if_word, try_word, Ring, begin_word, for_word, each_word, Block, stop, word, when, fork, ring, BlockEnd, closes, hops, then_block, Definition}
use Rattle.muf_model.specs.Source.{indices, pairs, Mark, looping, trying, calling, entering, Source, locked_of, calls_running, scope_of, open_of, word_called}
use Rattle.muf_model.specs.Unit as step
use Rattle.muf_model.specs.Unit.{Outcome, goes, ended, faulted, asks, stuck, unit, Settled, ready, crowded, calls_most}
use Rattle.spec_denials.specs.Plain.{NoDenial, NotDenied, EndsPlain}
use Rattle.spec_denials.proofs.Words.{plain_few, plain_needing, plain_fitting, plain_stored, words_plain}

either : (b : Bool) (x y : Outcome) → EndsPlain x → EndsPlain y → EndsPlain (cond b x y)
either true x y h k = h
either false x y h k = k

unwinds : (f : MufFault) → NoDenial f → (k : ℕ) (s : Source) (ms : List Mark) → EndsPlain (step.unwind f k s ms)
unwinds f h k s [] = h
unwinds f h k s (looping t round c last next end ∷ ms) = unwinds f h k s ms
unwinds f h k s (trying locked next end ∷ ms) = tt
unwinds f h k s (calling saved next end ∷ ms) = unwinds f h k (record s { variables = saved }) ms
unwinds f h k s (entering caller saved next end ∷ ms) = unwinds f h (suc k) (record s { variables = saved; program = caller }) ms

faults : (f : MufFault) (s : Source) → NoDenial f → EndsPlain (step.fault_met f s)
faults f s h = either (is_final f) (faulted f) (step.unwind f 0 s s.marks) h (unwinds f h 0 s s.marks)

few : (n : ℕ) (s : Source) → EndsPlain (step.fault_met (too_few n s.stack) s)
few n s = faults (too_few n s.stack) s (plain_few n s.stack)

leaves_word : (s : Source) (ms : List Mark) → EndsPlain (step.leave_word s ms)
leaves_word s [] = tt
leaves_word s (looping t round c last next end ∷ ms) = leaves_word s ms
leaves_word s (trying locked next end ∷ ms) = leaves_word s ms
leaves_word s (calling saved next end ∷ ms) = tt
leaves_word s (entering caller saved next end ∷ ms) = tt

leaves_loop : (s : Source) (ms : List Mark) → EndsPlain (step.leave_loop s ms)
leaves_loop s [] = tt
leaves_loop s (looping t round c last next end ∷ ms) = tt
leaves_loop s (trying locked next end ∷ ms) = leaves_loop s ms
leaves_loop s (calling saved next end ∷ ms) = tt
leaves_loop s (entering caller saved next end ∷ ms) = tt

turns : (s : Source) (ms : List Mark) → EndsPlain (step.next_round s ms)
turns s [] = tt
turns s (looping t round c last next end ∷ ms) = tt
turns s (trying locked next end ∷ ms) = turns s ms
turns s (calling saved next end ∷ ms) = tt
turns s (entering caller saved next end ∷ ms) = tt

tests_of : (stack : List Datum) (s : Source) (f g : Source → Outcome) → ((t : Source) → EndsPlain (f t)) → ((t : Source) → EndsPlain (g t)) → EndsPlain (step.item_tested stack s f g)
tests_of [] s f g h k = faults StackEmpty s tt
tests_of (x ∷ rest) s f g h k = either _ _ _ (h (record s { stack = rest })) (k (record s { stack = rest }))

tests : (s : Source) (f g : Source → Outcome) → ((t : Source) → EndsPlain (f t)) → ((t : Source) → EndsPlain (g t)) → EndsPlain (step.test s f g)
tests s f g h k = either (nat_lt (length s.stack) (locked_of s.marks + 1)) (step.fault_met (too_few 1 s.stack) s) (step.item_tested s.stack s f g) (few 1 s) (tests_of s.stack s f g h k)

calls_word : (d : Option Definition) (s : Source) → EndsPlain (step.word_call d s)
calls_word None s = faults BadAddress s tt
calls_word (Some d) s = either (nat_lt (calls_running s.marks) calls_most) (goes 0 (word_called d s)) (step.fault_met CallsFull s) tt (faults CallsFull s tt)

answers : (a : Answer) (s : Source) → NotDenied a → EndsPlain (step.primitive_answered a s)
answers (gives stack) s h = tt
answers (stores v x stack) s h = tt
answers (calls w stack) s h = calls_word (slice_get s.program.tree.words w) (record s { stack = stack })
answers (refuses f) s h = faults f s h

fits : (stack : List Datum) (s : Source) → EndsPlain (step.primitive_answered (stack_fitting stack) s)
fits stack s = answers (stack_fitting stack) s (plain_fitting stack)

opens : (before after : Source) → EndsPlain (step.construct_opening before after)
opens before after = either (nat_lt (open_of before.marks) step.open_most) (goes 0 after) (step.fault_met CallsFull before) tt (faults CallsFull before tt)

index_tests : (s : Source) (ms : List Mark) → EndsPlain (step.index_test s ms)
index_tests s (looping (indices (Some i) to by) round c last next end ∷ ms) =
    either (step.has_turn i to by) (step.primitive_answered (stack_fitting (int i ∷ s.stack)) (record s { marks = looping (indices (step.next_index i by) to by) round c last next end ∷ ms })) (goes 0 (record s { now = next; end = end; marks = ms })) (fits (int i ∷ s.stack) _) tt
index_tests s (looping (indices None to by) round c last next end ∷ ms) = tt
index_tests s _ = tt

pair_tests : (s : Source) (ms : List Mark) → EndsPlain (step.pair_test s ms)
pair_tests s (looping (pairs []) round c last next end ∷ ms) = tt
pair_tests s (looping (pairs ((k, x) ∷ left)) round c last next end ∷ ms) = fits (x ∷ k ∷ s.stack) (record s { marks = looping (pairs left) round c last next end ∷ ms })
pair_tests s _ = tt

keeps : (v : ℕ) (stack : List Datum) (s : Source) → NotDenied (step.top_kept v stack s)
keeps v [] s = tt
keeps v (x ∷ rest) s = plain_stored (variable_at v (scope_of s)) v x rest

uses : (b : Bool) (p : Name) (at s : Source) → EndsPlain (cond b (step.primitive_answered (primitive p (scope_of s) s.stack) s) (asks p at))
uses true p at s = answers (primitive p (scope_of s) s.stack) s (words_plain p (scope_of s) s.stack)
uses false p at s = tt

words : (w : Word) (at s : Source) → EndsPlain (step.word_unit w at s)
words (Literal l) at s = fits (step.constant l ∷ s.stack) s
words (Variable v) at s = fits (variable v.0 ∷ s.stack) s
words (Address w) at s = fits (address s.program.number w ∷ s.stack) s
words (Primitive p) at s = uses (is_local p) p at s
words (Call w) at s = calls_word (slice_get s.program.tree.words w) s
words (Bind n) at s =
    either (nat_lt (length s.stack) (locked_of s.marks + n)) (step.fault_met (too_few n s.stack) s) (goes 0 (record s { stack = drop n s.stack; variables = reverse (take n s.stack) ++ drop n s.variables })) (few n s) tt
words (Store v) at s = answers (needing 1 (locked_of s.marks) s.stack (step.top_kept v.0 s.stack s)) s (plain_needing 1 (locked_of s.marks) s.stack (step.top_kept v.0 s.stack s) (keeps v.0 s.stack s))
words Exit at s = leaves_word s s.marks
words Break at s = leaves_loop s s.marks
words Continue at s = turns s s.marks
words While at s = tests s (λ t. goes 0 t) (λ t. step.leave_loop t t.marks) (λ t. tt) (λ t. leaves_loop t t.marks)
words NextIndex at s = index_tests s s.marks
words NextPair at s = pair_tests s s.marks

closers : (c : Closer) (s : Source) → EndsPlain (step.close_unit c s)
closers Semicolon s = leaves_word s s.marks
closers Repeat s = turns s s.marks
closers Until s = tests s (λ t. step.leave_loop t t.marks) (λ t. step.next_round t t.marks) (λ t. leaves_loop t t.marks) (λ t. turns t t.marks)

ends_try : (s : Source) (ms : List Mark) → EndsPlain (step.end_try s ms)
ends_try s (trying locked next end ∷ ms) = tt
ends_try s _ = tt

ends : (end : BlockEnd) (s : Source) → EndsPlain (step.end_unit end s)
ends (closes c line) s = closers c s
ends (hops if_word line next end) s = tt
ends (hops try_word line next end) s = ends_try (record s { now = next; end = end }) s.marks

tries : (stack : List Datum) (s : Source) (block : Block) (end : BlockEnd) (handler : Block) → EndsPlain (step.try_count stack s block end handler)
tries (int (pos n) ∷ rest) s block end handler =
    let opened : Source = record s { stack = rest; now = block; end = end; marks = trying (length rest - n) handler s.end ∷ s.marks } in
    either (nat_lt (length s.stack) (locked_of s.marks + (n + 1))) (step.fault_met (too_few (n + 1) s.stack) s) (step.construct_opening s opened) (few (n + 1) s) (opens s opened)
tries (int (negsuc n) ∷ rest) s block end handler = faults BadArgument s tt
tries _ s block end handler = faults BadType s tt

forks : (k : Fork) (a : Block) (mid : ℕ) (b : Block) (s : Source) → EndsPlain (step.fork_unit k a mid b s)
forks if_word a mid b s = tests s (λ t. goes 0 (record t { now = a; end = hops if_word mid t.now t.end })) (λ t. goes 0 (record t { now = then_block b t.now })) (λ t. tt) (λ t. tt)
forks try_word a mid b s =
    either (nat_lt (length s.stack) (locked_of s.marks + 1)) (step.fault_met (too_few 1 s.stack) s) (step.try_count s.stack s a (hops try_word mid s.now s.end) (then_block b s.now)) (few 1 s) (tries s.stack s a (hops try_word mid s.now s.end) (then_block b s.now))

fors : (stack : List Datum) (s : Source) (body : Block) (c : Closer) (last : ℕ) → EndsPlain (step.for_count stack s body c last)
fors (int by ∷ int to ∷ int from ∷ rest) s body c last = opens s (step.turning (indices (Some from) to by) rest body c last s)
fors _ s body c last = faults BadType s tt

eaches : (stack : List Datum) (s : Source) (body : Block) (c : Closer) (last : ℕ) → EndsPlain (step.each_count stack s body c last)
eaches (items ds ∷ rest) s body c last = opens s (step.turning (pairs (step.values_numbered 0 ds)) rest body c last s)
eaches (dict qs ∷ rest) s body c last = opens s (step.turning (pairs (step.keyed qs)) rest body c last s)
eaches _ s body c last = faults BadType s tt

rings : (k : Ring) (body : Block) (c : Closer) (last : ℕ) (s : Source) → EndsPlain (step.ring_unit k body c last s)
rings begin_word body c last s = tt
rings for_word body c last s =
    either (nat_lt (length s.stack) (locked_of s.marks + 3)) (step.fault_met (too_few 3 s.stack) s) (step.for_count s.stack s body c last) (few 3 s) (fors s.stack s body c last)
rings each_word body c last s =
    either (nat_lt (length s.stack) (locked_of s.marks + 1)) (step.fault_met (too_few 1 s.stack) s) (step.each_count s.stack s body c last) (few 1 s) (eaches s.stack s body c last)

acts : (now : Block) (s : Source) → EndsPlain (step.act_at now s)
acts stop s = ends s.end s
acts (word line w next) s = words w s (record s { now = next })
acts (when line a next) s = tests (record s { now = next }) (λ t. goes 0 (record t { now = then_block a t.now })) (λ t. goes 0 t) (λ t. tt) (λ t. tt)
acts (fork k line a mid b next) s = forks k a mid b (record s { now = next })
acts (ring k line body c last next) s = rings k body c last (record s { now = next })

settled_acts : (x : Settled) → EndsPlain (step.act x)
settled_acts (ready s) = acts s.now s
settled_acts (crowded s) = faults CallsFull s tt

-- a unit that is faulted without a shared primitive isn't denied
pub unit_plain : (s : Source) → EndsPlain (unit s)
unit_plain s = settled_acts (step.settle s)
