-- A unit keeps a state nested, and is never stuck there.
use Rattle.std.proofs.Common.{◌≡◌, inl, inr, ◌⊎◌, ℕ, zero, suc, ◌+◌, ◌-◌, List, [], ◌∷◌, ◌++◌, take, reverse, drop, Bool, true, false, cond, refl, sym, ◌∙◌, subst}
use Rattle.std.specs.Prelude.{length, nat_lt, pos, negsuc, Some, None, slice_get, slice_set}
use Rattle.muf_model.specs.declared.code.Word.{Word}
use Rattle.muf_model.specs.declared.code.Word.TheVariants.{Literal, Variable, Address, Primitive, Call, Bind, Store, Exit, Break, Continue, While, NextIndex, NextPair}
use Rattle.muf_model.specs.declared.code.Closer.{Closer}
use Rattle.muf_model.specs.declared.code.Closer.TheVariants.{Semicolon, Repeat, Until}
use Rattle.muf_model.specs.declared.fault.MufFault.{MufFault}
use Rattle.muf_model.specs.declared.fault.MufFault.TheVariants.{StackEmpty, CallsFull, BadType, BadArgument, BadAddress}
use Rattle.muf_model.specs.declared.prims.Primitive.{Primitive as Name}
use Rattle.muf_model.specs.Prims.{is_local}
use Rattle.muf_model.specs.Faults.{is_final}
use Rattle.muf_model.specs.Datum.{Datum, int, variable, address, items, dict}
use Rattle.muf_model.specs.Answer.{Answer, gives, stores, calls, refuses, owned_first, call_first, too_few, needing, stack_fitting}
use Rattle.muf_model.specs.Rows.{primitive}
use Rattle.muf_model.specs.Tree.{Fork, if_word, try_word, begin_word, for_word, each_word, Block, stop, word, when, fork, ring, BlockEnd, closes, hops, then_block, Definition}
use Rattle.muf_model.specs.inner.Nesting.{Place, outside, inside, counting, keying, turn_of, behind, IsFree, EndsTurn, NestedBlock, NestedWords, NestedTree}
use Rattle.muf_model.specs.inner.Nested.{ring_of, place_in, turn_in, NestedItems, NestedEnd, NestedMarks, Nested, StaysNested}
use Rattle.muf_model.specs.Source.{Turns, plain, indices, pairs, Program, Mark, looping, trying, calling, entering, Source, locked_of, calls_running, with_variable, with_owned, variables_owned_by, scope_of, open_of, word_called, program_entered, started, item_passed, passed_at}
use Rattle.muf_model.specs.Unit as step
use Rattle.muf_model.specs.Unit.{Outcome, goes, ended, faulted, asks, stuck, unit, units, and_then, Settled, ready, crowded}

-- ---- places

pub once_behind : (p : Place) → behind (behind p) ≡ behind p
once_behind outside = refl
once_behind inside = refl
once_behind counting = refl
once_behind keying = refl

pub free_behind : (p : Place) → IsFree p → behind p ≡ p
free_behind outside h = refl
free_behind inside h = refl
free_behind counting h = absurd h
free_behind keying h = absurd h

-- items, and others behind them
pub then_nested : (p : Place) (a b : Block) → NestedBlock p a → NestedBlock (behind p) b → NestedBlock p (then_block a b)
then_nested p stop b h k = subst (λ q. NestedBlock q b) (free_behind p h) k
then_nested p (word line w r) b h k =
    (h.0, then_nested (behind p) r b h.1 (subst (λ q. NestedBlock q b) (sym (once_behind p)) k))
then_nested p (when line a r) b h k = (h.0, h.1, then_nested p r b h.2 k)
then_nested p (fork j line a mid c r) b h k = (h.0, h.1, h.2, then_nested p r b h.3 k)
then_nested p (ring j line body c last r) b h k = (h.0, h.1, h.2, then_nested p r b h.3 k)

-- ---- places in marks

place_free : (ms : List Mark) → behind (place_in ms) ≡ place_in ms
place_free [] = refl
place_free (looping t round c last next end ∷ ms) = refl
place_free (trying locked next end ∷ ms) = place_free ms
place_free (calling saved next end ∷ ms) = refl
place_free (entering caller saved next end ∷ ms) = refl

turn_free : (ms : List Mark) → behind (turn_in ms) ≡ place_in ms
turn_free [] = refl
turn_free (looping plain round c last next end ∷ ms) = refl
turn_free (looping (indices i to by) round c last next end ∷ ms) = refl
turn_free (looping (pairs left) round c last next end ∷ ms) = refl
turn_free (trying locked next end ∷ ms) = place_free ms
turn_free (calling saved next end ∷ ms) = refl
turn_free (entering caller saved next end ∷ ms) = refl

-- items other than a test stand behind others
resting : (ms : List Mark) (b : Block) → NestedItems b ms → (NestedBlock (turn_in ms) b → IsFree (turn_in ms)) → NestedBlock (place_in ms) b
resting ms b (inl n) free = n
resting ms b (inr n) free = subst (λ p. NestedBlock p b) (sym (free_behind (turn_in ms) (free n)) ∙ turn_free ms) n

next_in : (ms : List Mark) (line : ℕ) (w : Word) (next : Block) → NestedItems (word line w next) ms → NestedBlock (place_in ms) next
next_in ms line w next (inl n) = subst (λ p. NestedBlock p next) (place_free ms) n.1
next_in ms line w next (inr n) = subst (λ p. NestedBlock p next) (turn_free ms) n.1

then_in : (ms : List Mark) (a b : Block) → NestedBlock (place_in ms) a → NestedBlock (place_in ms) b → NestedBlock (place_in ms) (then_block a b)
then_in ms a b h k = then_nested (place_in ms) a b h (subst (λ p. NestedBlock p b) (sym (place_free ms)) k)

turn_inside : (ms : List Mark) → turn_in ms ≡ inside → place_in ms ≡ inside
turn_inside [] e = e
turn_inside (looping t round c last next end ∷ ms) e = refl
turn_inside (trying locked next end ∷ ms) e = e
turn_inside (calling saved next end ∷ ms) e = e
turn_inside (entering caller saved next end ∷ ms) e = e

-- a word of loops has a loop
in_loop : (ms : List Mark) (X Y : Type 0) → ((place_in ms ≡ inside) × X) ⊎ ((turn_in ms ≡ inside) × Y) → place_in ms ≡ inside
in_loop ms X Y (inl n) = n.0
in_loop ms X Y (inr n) = turn_inside ms n.0

-- no turn begins behind other items
never_at : (p : Place) → behind p ≡ p → (p ≡ counting → ⊥) × (p ≡ keying → ⊥)
never_at outside e = (λ f. cc, λ f. cc)
never_at inside e = (λ f. cc, λ f. cc)
never_at counting e = absurd cc
never_at keying e = absurd cc

counts : (ms : List Mark) (X Y : Type 0) → ((place_in ms ≡ counting) × X) ⊎ ((turn_in ms ≡ counting) × Y) → turn_in ms ≡ counting
counts ms X Y (inl n) = absurd ((never_at (place_in ms) (place_free ms)).0 n.0)
counts ms X Y (inr n) = n.0

keys : (ms : List Mark) (X Y : Type 0) → ((place_in ms ≡ keying) × X) ⊎ ((turn_in ms ≡ keying) × Y) → turn_in ms ≡ keying
keys ms X Y (inl n) = absurd ((never_at (place_in ms) (place_free ms)).1 n.0)
keys ms X Y (inr n) = n.0

turn_end : (t : Turns) (round : Block) (c : Closer) (last : ℕ) (next : Block) (end : BlockEnd) (ms : List Mark) → EndsTurn (ring_of t) c → NestedEnd (closes c last) (looping t round c last next end ∷ ms)
turn_end t round Semicolon last next end ms h = absurd h
turn_end t round Repeat last next end ms h = refl
turn_end t round Until last next end ms h = refl

-- what ends the items doesn't ask what their loop counts
end_turns : (at : BlockEnd) (t u : Turns) (round : Block) (c : Closer) (last : ℕ) (next : Block) (end : BlockEnd) (ms : List Mark) → NestedEnd at (looping t round c last next end ∷ ms) → NestedEnd at (looping u round c last next end ∷ ms)
end_turns (closes Semicolon line) t u round c last next end ms h = h
end_turns (closes Repeat line) t u round c last next end ms h = h
end_turns (closes Until line) t u round c last next end ms h = h
end_turns (hops if_word line after at) t u round c last next end ms h =
    (h.0, end_turns at t u round c last next end ms h.1)
end_turns (hops try_word line after at) t u round c last next end ms h = h

repeats_in_loop : (line : ℕ) (ms : List Mark) → NestedEnd (closes Repeat line) ms → place_in ms ≡ inside
repeats_in_loop line [] h = absurd h
repeats_in_loop line (looping t round c last next end ∷ ms) h = refl
repeats_in_loop line (trying locked next end ∷ ms) h = absurd h
repeats_in_loop line (calling saved next end ∷ ms) h = absurd h
repeats_in_loop line (entering caller saved next end ∷ ms) h = absurd h

untils_in_loop : (line : ℕ) (ms : List Mark) → NestedEnd (closes Until line) ms → place_in ms ≡ inside
untils_in_loop line [] h = absurd h
untils_in_loop line (looping t round c last next end ∷ ms) h = refl
untils_in_loop line (trying locked next end ∷ ms) h = absurd h
untils_in_loop line (calling saved next end ∷ ms) h = absurd h
untils_in_loop line (entering caller saved next end ∷ ms) h = absurd h

-- ---- states

-- A state behind an item.
record Rests (s : Source) : Type 0 where
  now : NestedBlock (place_in s.marks) s.now
  end : NestedEnd s.end s.marks
  marks : NestedMarks s.marks
  tree : NestedTree s.program.tree

rested : (s : Source) → Rests s → Nested s
rested s h = record { now = inl h.now; end = h.end; marks = h.marks; tree = h.tree }

-- ---- outcomes

either : (b : Bool) (x y : Outcome) → StaysNested x → StaysNested y → StaysNested (cond b x y)
either true x y h k = h
either false x y h k = k

unwinds : (f : MufFault) (k : ℕ) (s : Source) (ms : List Mark) → NestedTree s.program.tree → NestedMarks ms → StaysNested (step.unwind f k s ms)
unwinds f k s [] t m = tt
unwinds f k s (looping u round c last next end ∷ ms) t m = unwinds f k s ms t m.4
unwinds f k s (trying locked next end ∷ ms) t m = record { now = inl m.0; end = m.1; marks = m.2; tree = t }
unwinds f k s (calling saved next end ∷ ms) t m = unwinds f k (record s { variables = saved }) ms t m.2
unwinds f k s (entering caller saved next end ∷ ms) t m =
    unwinds f (suc k) (record s { variables = saved; program = caller }) ms m.0 m.3

faults : (f : MufFault) (s : Source) → NestedTree s.program.tree → NestedMarks s.marks → StaysNested (step.fault_met f s)
faults f s t m = either (is_final f) (faulted f) (step.unwind f 0 s s.marks) tt (unwinds f 0 s s.marks t m)

leaves_word : (s : Source) (ms : List Mark) → NestedTree s.program.tree → NestedMarks ms → StaysNested (step.leave_word s ms)
leaves_word s [] t m = tt
leaves_word s (looping u round c last next end ∷ ms) t m = leaves_word s ms t m.4
leaves_word s (trying locked next end ∷ ms) t m = leaves_word s ms t m.2
leaves_word s (calling saved next end ∷ ms) t m = record { now = m.0; end = m.1; marks = m.2; tree = t }
leaves_word s (entering caller saved next end ∷ ms) t m = record { now = m.1; end = m.2; marks = m.3; tree = m.0 }

leaves_loop : (s : Source) (ms : List Mark) → place_in ms ≡ inside → NestedTree s.program.tree → NestedMarks ms → StaysNested (step.leave_loop s ms)
leaves_loop s [] e t m = absurd cc
leaves_loop s (looping u round c last next end ∷ ms) e t m = record { now = inl m.2; end = m.3; marks = m.4; tree = t }
leaves_loop s (trying locked next end ∷ ms) e t m = leaves_loop s ms e t m.2
leaves_loop s (calling saved next end ∷ ms) e t m = absurd cc
leaves_loop s (entering caller saved next end ∷ ms) e t m = absurd cc

turns : (s : Source) (ms : List Mark) → place_in ms ≡ inside → NestedTree s.program.tree → NestedMarks ms → StaysNested (step.next_round s ms)
turns s [] e t m = absurd cc
turns s (looping u round c last next end ∷ ms) e t m =
    record { now = inr m.1; end = turn_end u round c last next end ms m.0; marks = m; tree = t }
turns s (trying locked next end ∷ ms) e t m = turns s ms e t m.2
turns s (calling saved next end ∷ ms) e t m = absurd cc
turns s (entering caller saved next end ∷ ms) e t m = absurd cc

tests_of : (stack : List Datum) (s : Source) (f g : Source → Outcome) → NestedTree s.program.tree → NestedMarks s.marks → ((rest : List Datum) → StaysNested (f (record s { stack = rest }))) → ((rest : List Datum) → StaysNested (g (record s { stack = rest }))) → StaysNested (step.item_tested stack s f g)
tests_of [] s f g t m h k = faults StackEmpty s t m
tests_of (x ∷ rest) s f g t m h k = either _ (f (record s { stack = rest })) (g (record s { stack = rest })) (h rest) (k rest)

tests : (s : Source) (f g : Source → Outcome) → NestedTree s.program.tree → NestedMarks s.marks → ((rest : List Datum) → StaysNested (f (record s { stack = rest }))) → ((rest : List Datum) → StaysNested (g (record s { stack = rest }))) → StaysNested (step.test s f g)
tests s f g t m h k =
    either (nat_lt (length s.stack) (locked_of s.marks + 1)) (step.fault_met (too_few 1 s.stack) s) (step.item_tested s.stack s f g) (faults (too_few 1 s.stack) s t m) (tests_of s.stack s f g t m h k)

-- a word is called from behind the item that calls it
called_nested : (d : Definition) (s : Source) → NestedBlock outside d.body → Nested s → Nested (word_called d s)
called_nested d s n h = record { now = inl n; end = tt; marks = (h.now, h.end, h.marks); tree = h.tree }

pub entered_nested : (p : Program) (d : Definition) (s : Source) → NestedTree p.tree → NestedBlock outside d.body → Nested s → Nested (program_entered p d s)
entered_nested p d s t n h = record { now = inl n; end = tt; marks = (h.tree, h.now, h.end, h.marks); tree = t }

pub started_nested : (p : Program) (d : Definition) (common : List Datum) (argument : List ℕ) → NestedTree p.tree → NestedBlock outside d.body → Nested (started p d common argument)
started_nested p d common argument t n = record { now = inl n; end = tt; marks = tt; tree = t }

calls_word : (ds : List Definition) (w : ℕ) (s : Source) → NestedWords ds → Nested s → StaysNested (step.word_call (slice_get ds w) s)
calls_word [] w s n h = faults BadAddress s h.tree h.marks
calls_word (d ∷ ds) zero s n h =
    either (nat_lt (calls_running s.marks) step.calls_most) (goes 0 (word_called d s)) (step.fault_met CallsFull s) (called_nested d s n.0 h) (faults CallsFull s h.tree h.marks)
calls_word (d ∷ ds) (suc w) s n h = calls_word ds w s n.1 h

chooses : (b : Bool) (s t : Source) → Nested s → Nested t → Nested (cond b s t)
chooses true s t h k = h
chooses false s t h k = k

stacked : (stack : List Datum) (s : Source) → Nested s → Nested (record s { stack = stack })
stacked stack s h = record { now = h.now; end = h.end; marks = h.marks; tree = h.tree }

keeps_variable : (v : ℕ) (x : Datum) (s : Source) → Nested s → Nested (with_variable v x s)
keeps_variable v x s h =
    chooses (nat_lt v owned_first) (record s { common = slice_set s.common v x }) _ (record { now = h.now; end = h.end; marks = h.marks; tree = h.tree }) (chooses (nat_lt v call_first) (record s { owned = with_owned s.program.number (slice_set (variables_owned_by s.program.number s.owned) (v - owned_first) x) s.owned }) (record s { variables = slice_set s.variables (v - call_first) x }) (record { now = h.now; end = h.end; marks = h.marks; tree = h.tree }) (record { now = h.now; end = h.end; marks = h.marks; tree = h.tree }))

answers : (a : Answer) (s : Source) → Nested s → StaysNested (step.primitive_answered a s)
answers (gives stack) s h = stacked stack s h
answers (stores v x stack) s h = keeps_variable v x (record s { stack = stack }) (stacked stack s h)
answers (calls w stack) s h = calls_word s.program.tree.words w (record s { stack = stack }) h.tree (stacked stack s h)
answers (refuses f) s h = faults f s h.tree h.marks

opens : (before after : Source) → Nested before → Nested after → StaysNested (step.construct_opening before after)
opens before after h k =
    either (nat_lt (open_of before.marks) step.open_most) (goes 0 after) (step.fault_met CallsFull before) k (faults CallsFull before h.tree h.marks)

index_tests : (s : Source) (ms : List Mark) → turn_in ms ≡ counting → NestedBlock (place_in ms) s.now → NestedEnd s.end ms → NestedMarks ms → NestedTree s.program.tree → StaysNested (step.index_test s ms)
index_tests s [] e n d m t = absurd cc
index_tests s (looping plain round c last next end ∷ ms) e n d m t = absurd cc
index_tests s (looping (indices (Some i) to by) round c last next end ∷ ms) e n d m t =
    let turned : Source = record s { marks = looping (indices (step.next_index i by) to by) round c last next end ∷ ms } in
    either (step.has_turn i to by) (step.primitive_answered (stack_fitting (int i ∷ s.stack)) turned) (goes 0 (record s { now = next; end = end; marks = ms })) (answers (stack_fitting (int i ∷ s.stack)) turned (record { now = inl n; end = end_turns s.end (indices (Some i) to by) (indices (step.next_index i by) to by) round c last next end ms d; marks = m; tree = t })) (record { now = inl m.2; end = m.3; marks = m.4; tree = t })
index_tests s (looping (indices None to by) round c last next end ∷ ms) e n d m t =
    record { now = inl m.2; end = m.3; marks = m.4; tree = t }
index_tests s (looping (pairs left) round c last next end ∷ ms) e n d m t = absurd cc
index_tests s (trying locked next end ∷ ms) e n d m t = absurd ((never_at (place_in ms) (place_free ms)).0 e)
index_tests s (calling saved next end ∷ ms) e n d m t = absurd cc
index_tests s (entering caller saved next end ∷ ms) e n d m t = absurd cc

pair_tests : (s : Source) (ms : List Mark) → turn_in ms ≡ keying → NestedBlock (place_in ms) s.now → NestedEnd s.end ms → NestedMarks ms → NestedTree s.program.tree → StaysNested (step.pair_test s ms)
pair_tests s [] e n d m t = absurd cc
pair_tests s (looping plain round c last next end ∷ ms) e n d m t = absurd cc
pair_tests s (looping (indices i to by) round c last next end ∷ ms) e n d m t = absurd cc
pair_tests s (looping (pairs []) round c last next end ∷ ms) e n d m t =
    record { now = inl m.2; end = m.3; marks = m.4; tree = t }
pair_tests s (looping (pairs ((k, x) ∷ left)) round c last next end ∷ ms) e n d m t =
    answers (stack_fitting (x ∷ k ∷ s.stack)) (record s { marks = looping (pairs left) round c last next end ∷ ms }) (record { now = inl n; end = end_turns s.end (pairs ((k, x) ∷ left)) (pairs left) round c last next end ms d; marks = m; tree = t })
pair_tests s (trying locked next end ∷ ms) e n d m t = absurd ((never_at (place_in ms) (place_free ms)).1 e)
pair_tests s (calling saved next end ∷ ms) e n d m t = absurd cc
pair_tests s (entering caller saved next end ∷ ms) e n d m t = absurd cc

-- a primitive, from the state at it and the state behind it
uses : (p : Name) (at s : Source) (b : Bool) → Nested at → Nested s → StaysNested (cond b (step.primitive_answered (primitive p (scope_of s) s.stack) s) (asks p at))
uses p at s true h k = answers (primitive p (scope_of s) s.stack) s k
uses p at s false h k = h

-- what a word does, from the state at it
words : (w : Word) (line : ℕ) (next : Block) (at : Source) → Nested at → NestedItems (word line w next) at.marks → Rests (record at { now = next }) → StaysNested (step.word_unit w at (record at { now = next }))
words (Literal l) line next at h n k = answers (stack_fitting (step.constant l ∷ at.stack)) (record at { now = next }) (rested _ k)
words (Variable v) line next at h n k = answers (stack_fitting (variable v.0 ∷ at.stack)) (record at { now = next }) (rested _ k)
words (Address w) line next at h n k = answers (stack_fitting (address at.program.number w ∷ at.stack)) (record at { now = next }) (rested _ k)
words (Primitive p) line next at h n k = uses p at (record at { now = next }) (is_local p) h (rested _ k)
words (Call w) line next at h n k = calls_word at.program.tree.words w (record at { now = next }) k.tree (rested _ k)
words (Bind n) line next at h i k =
    either (nat_lt (length at.stack) (locked_of at.marks + n)) (step.fault_met (too_few n at.stack) (record at { now = next })) (goes 0 (record at { now = next; stack = drop n at.stack; variables = reverse (take n at.stack) ++ drop n at.variables })) (faults (too_few n at.stack) (record at { now = next }) k.tree k.marks) (record { now = inl k.now; end = k.end; marks = k.marks; tree = k.tree })
words (Store v) line next at h n k =
    answers (needing 1 (locked_of at.marks) at.stack (step.top_kept v.0 at.stack (record at { now = next }))) (record at { now = next }) (rested _ k)
words Exit line next at h n k = leaves_word (record at { now = next }) at.marks k.tree k.marks
words Break line next at h n k = leaves_loop (record at { now = next }) at.marks (in_loop at.marks _ _ n) k.tree k.marks
words Continue line next at h n k = turns (record at { now = next }) at.marks (in_loop at.marks _ _ n) k.tree k.marks
words While line next at h n k =
    tests (record at { now = next }) (λ t. goes 0 t) (λ t. step.leave_loop t t.marks) k.tree k.marks (λ rest. record { now = inl k.now; end = k.end; marks = k.marks; tree = k.tree }) (λ rest. leaves_loop (record at { now = next; stack = rest }) at.marks (in_loop at.marks _ _ n) k.tree k.marks)
words NextIndex line next at h n k = index_tests (record at { now = next }) at.marks (counts at.marks _ _ n) k.now k.end k.marks k.tree
words NextPair line next at h n k = pair_tests (record at { now = next }) at.marks (keys at.marks _ _ n) k.now k.end k.marks k.tree

-- ---- ends

closers : (c : Closer) (line : ℕ) (s : Source) → NestedEnd (closes c line) s.marks → NestedTree s.program.tree → NestedMarks s.marks → StaysNested (step.close_unit c s)
closers Semicolon line s e t m = leaves_word s s.marks t m
closers Repeat line s e t m = turns s s.marks (repeats_in_loop line s.marks e) t m
closers Until line s e t m =
    tests s (λ t. step.leave_loop t t.marks) (λ t. step.next_round t t.marks) t m (λ rest. leaves_loop (record s { stack = rest }) s.marks (untils_in_loop line s.marks e) t m) (λ rest. turns (record s { stack = rest }) s.marks (untils_in_loop line s.marks e) t m)

ends_try : (s : Source) (line : ℕ) (next : Block) (end : BlockEnd) (ms : List Mark) → NestedEnd (hops try_word line next end) ms → NestedTree s.program.tree → NestedMarks ms → StaysNested (step.end_try (record s { now = next; end = end }) ms)
ends_try s line next end [] e t m = absurd e
ends_try s line next end (looping u round c last after back ∷ ms) e t m = absurd e
ends_try s line next end (trying locked after back ∷ ms) e t m = record { now = inl e.0; end = e.1; marks = m.2; tree = t }
ends_try s line next end (calling saved after back ∷ ms) e t m = absurd e
ends_try s line next end (entering caller saved after back ∷ ms) e t m = absurd e

ends : (end : BlockEnd) (s : Source) → NestedEnd end s.marks → NestedTree s.program.tree → NestedMarks s.marks → StaysNested (step.end_unit end s)
ends (closes c line) s e t m = closers c line s e t m
ends (hops if_word line next end) s e t m = record { now = inl e.0; end = e.1; marks = m; tree = t }
ends (hops try_word line next end) s e t m = ends_try s line next end s.marks e t m

-- ---- choices and loops, from the state behind them

tries : (stack : List Datum) (s : Source) (block : Block) (mid : ℕ) (handler : Block) → Rests s → NestedBlock (place_in s.marks) block → NestedBlock (place_in s.marks) handler → StaysNested (step.try_count stack s block (hops try_word mid s.now s.end) handler)
tries (int (pos n) ∷ rest) s block mid handler h b c =
    either (nat_lt (length s.stack) (locked_of s.marks + (n + 1))) (step.fault_met (too_few (n + 1) s.stack) s) (step.construct_opening s (record s { stack = rest; now = block; end = hops try_word mid s.now s.end; marks = trying (length rest - n) handler s.end ∷ s.marks })) (faults (too_few (n + 1) s.stack) s h.tree h.marks) (opens s (record s { stack = rest; now = block; end = hops try_word mid s.now s.end; marks = trying (length rest - n) handler s.end ∷ s.marks }) (rested s h) (record { now = inl b; end = (h.now, h.end); marks = (c, h.end, h.marks); tree = h.tree }))
tries (int (negsuc n) ∷ rest) s block mid handler h b c = faults BadArgument s h.tree h.marks
tries _ s block mid handler h b c = faults BadType s h.tree h.marks

forks : (k : Fork) (a : Block) (mid : ℕ) (b : Block) (s : Source) → Rests s → NestedBlock (place_in s.marks) a → NestedBlock (place_in s.marks) (then_block b s.now) → StaysNested (step.fork_unit k a mid b s)
forks if_word a mid b s h x y =
    tests s (λ t. goes 0 (record t { now = a; end = hops if_word mid t.now t.end })) (λ t. goes 0 (record t { now = then_block b t.now })) h.tree h.marks (λ rest. record { now = inl x; end = (h.now, h.end); marks = h.marks; tree = h.tree }) (λ rest. record { now = inl y; end = h.end; marks = h.marks; tree = h.tree })
forks try_word a mid b s h x y =
    either (nat_lt (length s.stack) (locked_of s.marks + 1)) (step.fault_met (too_few 1 s.stack) s) (step.try_count s.stack s a (hops try_word mid s.now s.end) (then_block b s.now)) (faults (too_few 1 s.stack) s h.tree h.marks) (tries s.stack s a mid (then_block b s.now) h x y)

begun : (t : Turns) (stack : List Datum) (body : Block) (c : Closer) (last : ℕ) (s : Source) → EndsTurn (ring_of t) c → NestedBlock (turn_of (ring_of t)) body → Rests s → Nested (step.turning t stack body c last s)
begun t stack body c last s e b h =
    record { now = inr b; end = turn_end t body c last s.now s.end s.marks e; marks = (e, b, h.now, h.end, h.marks); tree = h.tree }

fors : (stack : List Datum) (s : Source) (body : Block) (c : Closer) (last : ℕ) → EndsTurn for_word c → NestedBlock counting body → Rests s → StaysNested (step.for_count stack s body c last)
fors (int by ∷ int to ∷ int from ∷ rest) s body c last e b h =
    opens s (step.turning (indices (Some from) to by) rest body c last s) (rested s h) (begun (indices (Some from) to by) rest body c last s e b h)
fors _ s body c last e b h = faults BadType s h.tree h.marks

eaches : (stack : List Datum) (s : Source) (body : Block) (c : Closer) (last : ℕ) → EndsTurn each_word c → NestedBlock keying body → Rests s → StaysNested (step.each_count stack s body c last)
eaches (items ds ∷ rest) s body c last e b h =
    opens s (step.turning (pairs (step.values_numbered 0 ds)) rest body c last s) (rested s h) (begun (pairs (step.values_numbered 0 ds)) rest body c last s e b h)
eaches (dict qs ∷ rest) s body c last e b h =
    opens s (step.turning (pairs (step.keyed qs)) rest body c last s) (rested s h) (begun (pairs (step.keyed qs)) rest body c last s e b h)
eaches _ s body c last e b h = faults BadType s h.tree h.marks

-- ---- units

abbrev IsBegin : Block → Type 0
IsBegin (ring begin_word line body c last next) = Unit {0}
IsBegin _ = ⊥

acts : (now : Block) (s : Source) → s.now ≡ now → (IsBegin now → ⊥) → Nested s → StaysNested (step.act_at now s)
acts stop s at b h = ends s.end s h.end h.tree h.marks
acts (word line w next) s at b h =
    let n : NestedItems (word line w next) s.marks = subst (λ x. NestedItems x s.marks) at h.now in
    words w line next s h n (record { now = next_in s.marks line w next n; end = h.end; marks = h.marks; tree = h.tree })
acts (when line a next) s at b h =
    let n : NestedBlock (place_in s.marks) (when line a next) = resting s.marks (when line a next) (subst (λ x. NestedItems x s.marks) at h.now) (λ k. k.0) in
    tests (record s { now = next }) (λ t. goes 0 (record t { now = then_block a t.now })) (λ t. goes 0 t) h.tree h.marks (λ rest. record { now = inl (then_in s.marks a next n.1 n.2); end = h.end; marks = h.marks; tree = h.tree }) (λ rest. record { now = inl n.2; end = h.end; marks = h.marks; tree = h.tree })
acts (fork k line a mid c next) s at b h =
    let n : NestedBlock (place_in s.marks) (fork k line a mid c next) = resting s.marks (fork k line a mid c next) (subst (λ x. NestedItems x s.marks) at h.now) (λ k. k.0) in
    forks k a mid c (record s { now = next }) (record { now = n.3; end = h.end; marks = h.marks; tree = h.tree }) n.1 (then_in s.marks c next n.2 n.3)
acts (ring begin_word line body c last next) s at b h = absurd (b tt)
acts (ring for_word line body c last next) s at b h =
    let n : NestedBlock (place_in s.marks) (ring for_word line body c last next) = resting s.marks (ring for_word line body c last next) (subst (λ x. NestedItems x s.marks) at h.now) (λ k. k.0) in
    either (nat_lt (length s.stack) (locked_of s.marks + 3)) (step.fault_met (too_few 3 s.stack) (record s { now = next })) (step.for_count s.stack (record s { now = next }) body c last) (faults (too_few 3 s.stack) (record s { now = next }) h.tree h.marks) (fors s.stack (record s { now = next }) body c last n.1 n.2 (record { now = n.3; end = h.end; marks = h.marks; tree = h.tree }))
acts (ring each_word line body c last next) s at b h =
    let n : NestedBlock (place_in s.marks) (ring each_word line body c last next) = resting s.marks (ring each_word line body c last next) (subst (λ x. NestedItems x s.marks) at h.now) (λ k. k.0) in
    either (nat_lt (length s.stack) (locked_of s.marks + 1)) (step.fault_met (too_few 1 s.stack) (record s { now = next })) (step.each_count s.stack (record s { now = next }) body c last) (faults (too_few 1 s.stack) (record s { now = next }) h.tree h.marks) (eaches s.stack (record s { now = next }) body c last n.1 n.2 (record { now = n.3; end = h.end; marks = h.marks; tree = h.tree }))

-- a settled state is nested, and no BEGIN comes next there
abbrev SettlesNested : Settled → Type 0
SettlesNested (ready s) = Nested s × (IsBegin s.now → ⊥)
SettlesNested (crowded s) = Nested s

either_settled : (b : Bool) (x y : Settled) → SettlesNested x → SettlesNested y → SettlesNested (cond b x y)
either_settled true x y h k = h
either_settled false x y h k = k

settles : (now : Block) (s : Source) → s.now ≡ now → Nested s → SettlesNested (step.settle_at now s)
settles stop s at h = (h, λ b. subst IsBegin at b)
settles (word line w next) s at h = (h, λ b. subst IsBegin at b)
settles (when line a next) s at h = (h, λ b. subst IsBegin at b)
settles (fork k line a mid b next) s at h = (h, λ b. subst IsBegin at b)
settles (ring for_word line body c last next) s at h = (h, λ b. subst IsBegin at b)
settles (ring each_word line body c last next) s at h = (h, λ b. subst IsBegin at b)
settles (ring begin_word line body c last next) s at h =
    let n : NestedBlock (place_in s.marks) (ring begin_word line body c last next) = resting s.marks (ring begin_word line body c last next) (subst (λ x. NestedItems x s.marks) at h.now) (λ k. k.0) in
    either_settled (nat_lt (open_of s.marks) step.open_most) (step.settle_at body (step.turning plain s.stack body c last (record s { now = next }))) (crowded s) (settles body (step.turning plain s.stack body c last (record s { now = next })) refl (begun plain s.stack body c last (record s { now = next }) n.1 n.2 (record { now = n.3; end = h.end; marks = h.marks; tree = h.tree }))) h

settled_acts : (x : Settled) → SettlesNested x → StaysNested (step.act x)
settled_acts (ready s) h = acts s.now s refl h.1 h.0
settled_acts (crowded s) h = faults CallsFull s h.tree h.marks

-- a unit of a nested state isn't stuck, and what it goes on with is nested
pub unit_nested : (s : Source) → Nested s → StaysNested (unit s)
unit_nested s h = settled_acts (step.settle s) (settles s.now s refl h)

-- a fault that is caught, too
pub fault_nested : (f : MufFault) (s : Source) → Nested s → StaysNested (step.fault_met f s)
fault_nested f s h = faults f s h.tree h.marks

-- and many units
then_nested_units : (m : ℕ) (o : Outcome) → ((t : Source) → Nested t → StaysNested (units m t)) → StaysNested o → StaysNested (and_then o (units m))
then_nested_units m (goes zero t) more h = more t h
then_nested_units m (goes (suc k) t) more h = h
then_nested_units m ended more h = tt
then_nested_units m (faulted f) more h = tt
then_nested_units m (asks p t) more h = h
then_nested_units m stuck more h = absurd h

pub units_nested : (m : ℕ) (s : Source) → Nested s → StaysNested (units m s)
units_nested zero s h = h
units_nested (suc m) s h = then_nested_units m (unit s) (units_nested m) (unit_nested s h)

-- behind a primitive
passes : (now : Block) (s : Source) → s.now ≡ now → Nested s → Nested (passed_at now s)
passes (word line w next) s at h =
    record { now = inl (next_in s.marks line w next (subst (λ x. NestedItems x s.marks) at h.now)); end = h.end; marks = h.marks; tree = h.tree }
passes stop s at h = h
passes (when line a next) s at h = h
passes (fork k line a mid b next) s at h = h
passes (ring k line body c last next) s at h = h

pub passed_nested : (s : Source) → Nested s → Nested (item_passed s)
passed_nested s h = passes s.now s refl h
