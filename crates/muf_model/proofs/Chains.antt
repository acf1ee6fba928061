-- Which programs a unit leaves, and how many units are taken.
use Rattle.std.proofs.Common.{◌≡◌, ℕ, zero, suc, ◌+◌, ◌-◌, ◌<◌, ◌≤◌, List, [], ◌∷◌, ◌++◌, take, reverse, drop, Bool, true, false, cond, refl, ap, ◌∙◌, subst, arith}
use Rattle.std.specs.Prelude.{length, nat_lt, pos, negsuc, Option, Some, None, slice_get, slice_set}
use Rattle.muf_model.specs.declared.code.Word.{Word}
use Rattle.muf_model.specs.declared.code.Word.TheVariants.{Literal, Variable, Address, Primitive, Call, Bind, Store, Exit, Break, Continue, While, NextIndex, NextPair}
use Rattle.muf_model.specs.declared.code.Closer.{Closer}
use Rattle.muf_model.specs.declared.code.Closer.TheVariants.{Semicolon, Repeat, Until}
use Rattle.muf_model.specs.declared.fault.MufFault.{MufFault}
use Rattle.muf_model.specs.declared.fault.MufFault.TheVariants.{StackEmpty, CallsFull, BadType, BadArgument, BadAddress}
use Rattle.muf_model.specs.declared.prims.Primitive.{Primitive as Name}
use Rattle.muf_model.specs.Prims.{is_local}
use Rattle.muf_model.specs.Faults.{is_final}
use Rattle.muf_model.specs.Datum.{Datum, int, text, object, variable, address, lock, items, dict, mark}
use Rattle.muf_model.specs.Answer.{Answer, gives, stores, calls, refuses, owned_first, call_first, too_few, needing, stack_fitting}
use Rattle.muf_model.specs.Rows.{primitive}
use Rattle.muf_model.specs.Tree.{Fork, if_word, try_word, Ring, begin_word, for_word, each_word, Block, stop, word, when, fork, ring, BlockEnd, closes, hops, then_block, Definition}
use Rattle.muf_model.specs.Source.{plain, indices, pairs, Program, Mark, looping, trying, calling, entering, Source, locked_of, with_variable, with_owned, variables_owned_by, scope_of, open_of}
use Rattle.muf_model.specs.Unit as step
use Rattle.muf_model.specs.Unit.{Outcome, goes, ended, faulted, asks, stuck, unit, units, and_then, Settled, ready, crowded}
use Rattle.muf_model.specs.Chains.{callers_of, programs_of, count, taken, StandsAt, Keeps}

-- the same of an outcome by its form
data Holds (ps : List Program) : Outcome → Type 0 where
  on : {k : ℕ} {t : Source} → programs_of t ≡ drop k ps → Holds ps (goes k t)
  done : Holds ps ended
  broken : {f : MufFault} → Holds ps (faulted f)
  asking : {p : Name} {t : Source} → programs_of t ≡ ps → StandsAt p t → Holds ps (asks p t)
  lost : Holds ps stuck

data Within (ps : List Program) : Source → Type 0 where
  within : {t : Source} → programs_of t ≡ ps → Within ps t

within_of : (ps : List Program) (t : Source) → Within ps t → programs_of t ≡ ps
within_of ps t (within e) = e

holds : (ps : List Program) (o : Outcome) → Holds ps o → Keeps ps o
holds ps (goes k t) (on e) = e
holds ps ended done = tt
holds ps (faulted f) broken = tt
holds ps (asks p t) (asking e h) = (e, h)
holds ps stuck lost = tt

drop_one : (k : ℕ) (p : Program) (ps qs : List Program) → p ∷ qs ≡ drop k ps → qs ≡ drop (suc k) ps
drop_one zero p (q ∷ ps) qs e = ap (drop 1) e
drop_one zero p [] qs e = absurd cc
drop_one (suc k) p (q ∷ ps) qs e = drop_one k p ps qs e
drop_one (suc k) p [] qs e = absurd cc

module _ (ps : List Program) where
  either : (b : Bool) (x y : Outcome) → Holds ps x → Holds ps y → Holds ps (cond b x y)
  either true x y h k = h
  either false x y h k = k

  unwinds : (f : MufFault) (k : ℕ) (s : Source) (ms : List Mark) → s.program ∷ callers_of ms ≡ drop k ps → Holds ps (step.unwind f k s ms)
  unwinds f k s [] e = broken
  unwinds f k s (looping t round c last next end ∷ ms) e = unwinds f k s ms e
  unwinds f k s (trying locked next end ∷ ms) e = on e
  unwinds f k s (calling saved next end ∷ ms) e = unwinds f k (record s { variables = saved }) ms e
  unwinds f k s (entering caller saved next end ∷ ms) e =
      unwinds f (suc k) (record s { variables = saved; program = caller }) ms (drop_one k s.program ps _ e)

  faults : (f : MufFault) (s : Source) → programs_of s ≡ ps → Holds ps (step.fault_met f s)
  faults f s e = either (is_final f) (faulted f) (step.unwind f 0 s s.marks) broken (unwinds f 0 s s.marks e)

  leaves_word : (s : Source) (ms : List Mark) → s.program ∷ callers_of ms ≡ ps → Holds ps (step.leave_word s ms)
  leaves_word s [] e = done
  leaves_word s (looping t round c last next end ∷ ms) e = leaves_word s ms e
  leaves_word s (trying locked next end ∷ ms) e = leaves_word s ms e
  leaves_word s (calling saved next end ∷ ms) e = on e
  leaves_word s (entering caller saved next end ∷ ms) e = on (drop_one 0 s.program ps _ e)

  leaves_loop : (s : Source) (ms : List Mark) → s.program ∷ callers_of ms ≡ ps → Holds ps (step.leave_loop s ms)
  leaves_loop s [] e = lost
  leaves_loop s (looping t round c last next end ∷ ms) e = on e
  leaves_loop s (trying locked next end ∷ ms) e = leaves_loop s ms e
  leaves_loop s (calling saved next end ∷ ms) e = lost
  leaves_loop s (entering caller saved next end ∷ ms) e = lost

  turns : (s : Source) (ms : List Mark) → s.program ∷ callers_of ms ≡ ps → Holds ps (step.next_round s ms)
  turns s [] e = lost
  turns s (looping t round c last next end ∷ ms) e = on e
  turns s (trying locked next end ∷ ms) e = turns s ms e
  turns s (calling saved next end ∷ ms) e = lost
  turns s (entering caller saved next end ∷ ms) e = lost

  tests_of : (stack : List Datum) (s : Source) (f g : Source → Outcome) → programs_of s ≡ ps → ((rest : List Datum) → Holds ps (f (record s { stack = rest }))) → ((rest : List Datum) → Holds ps (g (record s { stack = rest }))) → Holds ps (step.item_tested stack s f g)
  tests_of [] s f g e h k = faults StackEmpty s e
  tests_of (x ∷ rest) s f g e h k = either _ _ _ (h rest) (k rest)

  tests : (s : Source) (f g : Source → Outcome) → programs_of s ≡ ps → ((rest : List Datum) → Holds ps (f (record s { stack = rest }))) → ((rest : List Datum) → Holds ps (g (record s { stack = rest }))) → Holds ps (step.test s f g)
  tests s f g e h k = either _ _ _ (faults (too_few 1 s.stack) s e) (tests_of s.stack s f g e h k)

  calls_word : (d : Option Definition) (s : Source) → programs_of s ≡ ps → Holds ps (step.word_call d s)
  calls_word None s e = faults BadAddress s e
  calls_word (Some d) s e = either _ _ _ (on e) (faults CallsFull s e)

  chooses : (b : Bool) (s t : Source) → Within ps s → Within ps t → Within ps (cond b s t)
  chooses true s t e d = e
  chooses false s t e d = d

  keeps_variable : (v : ℕ) (x : Datum) (s : Source) → programs_of s ≡ ps → Within ps (with_variable v x s)
  keeps_variable v x s e =
      chooses (nat_lt v owned_first) (record s { common = slice_set s.common v x }) _ (within e) (chooses (nat_lt v call_first) (record s { owned = with_owned s.program.number (slice_set (variables_owned_by s.program.number s.owned) (v - owned_first) x) s.owned }) (record s { variables = slice_set s.variables (v - call_first) x }) (within e) (within e))

  answers : (a : Answer) (s : Source) → programs_of s ≡ ps → Holds ps (step.primitive_answered a s)
  answers (gives stack) s e = on e
  answers (stores v x stack) s e = on (within_of ps _ (keeps_variable v x (record s { stack = stack }) e))
  answers (calls w stack) s e = calls_word _ (record s { stack = stack }) e
  answers (refuses f) s e = faults f s e

  opens : (before after : Source) → programs_of before ≡ ps → programs_of after ≡ ps → Holds ps (step.construct_opening before after)
  opens before after e d = either _ _ _ (on d) (faults CallsFull before e)

  index_tests : (s : Source) (ms : List Mark) → s.program ∷ callers_of ms ≡ ps → Holds ps (step.index_test s ms)
  index_tests s [] e = lost
  index_tests s (looping plain round c last next end ∷ ms) e = lost
  index_tests s (looping (indices (Some i) to by) round c last next end ∷ ms) e = either (step.has_turn i to by) (step.primitive_answered (stack_fitting (int i ∷ s.stack)) (record s { marks = looping (indices (step.next_index i by) to by) round c last next end ∷ ms })) (goes 0 (record s { now = next; end = end; marks = ms })) (answers (stack_fitting (int i ∷ s.stack)) (record s { marks = looping (indices (step.next_index i by) to by) round c last next end ∷ ms }) e) (on e)
  index_tests s (looping (indices None to by) round c last next end ∷ ms) e = on e
  index_tests s (looping (pairs left) round c last next end ∷ ms) e = lost
  index_tests s (trying locked next end ∷ ms) e = lost
  index_tests s (calling saved next end ∷ ms) e = lost
  index_tests s (entering caller saved next end ∷ ms) e = lost

  pair_tests : (s : Source) (ms : List Mark) → s.program ∷ callers_of ms ≡ ps → Holds ps (step.pair_test s ms)
  pair_tests s [] e = lost
  pair_tests s (looping plain round c last next end ∷ ms) e = lost
  pair_tests s (looping (indices i to by) round c last next end ∷ ms) e = lost
  pair_tests s (looping (pairs []) round c last next end ∷ ms) e = on e
  pair_tests s (looping (pairs ((k, x) ∷ left)) round c last next end ∷ ms) e =
      answers (stack_fitting (x ∷ k ∷ s.stack)) (record s { marks = looping (pairs left) round c last next end ∷ ms }) e
  pair_tests s (trying locked next end ∷ ms) e = lost
  pair_tests s (calling saved next end ∷ ms) e = lost
  pair_tests s (entering caller saved next end ∷ ms) e = lost

  -- a primitive that isn't local is asked for
  uses_shared : (p : Name) (line : ℕ) (next : Block) (s : Source) → s.now ≡ word line (Primitive p) next → programs_of s ≡ ps → (b : Bool) → is_local p ≡ b → Holds ps (cond b (step.primitive_answered (primitive p (scope_of (record s { now = next })) s.stack) (record s { now = next })) (asks p s))
  uses_shared p line next s at e true l =
      answers (primitive p (scope_of (record s { now = next })) s.stack) (record s { now = next }) e
  uses_shared p line next s at e false l =
      asking e (record { line = line; next = next; at = at; asked = ap (λ b. step.act (step.settle_at b s)) at ∙ ap (λ b. step.act_at b s) at ∙ ap (λ b. cond b (step.primitive_answered (primitive p (scope_of (record s { now = next })) s.stack) (record s { now = next })) (asks p s)) l })

  words : (w : Word) (line : ℕ) (next : Block) (s : Source) → s.now ≡ word line w next → programs_of s ≡ ps → Holds ps (step.word_unit w s (record s { now = next }))
  words (Literal l) line next s at e = answers (stack_fitting (step.constant l ∷ s.stack)) (record s { now = next }) e
  words (Variable v) line next s at e = answers (stack_fitting (variable v.0 ∷ s.stack)) (record s { now = next }) e
  words (Address w) line next s at e = answers (stack_fitting (address s.program.number w ∷ s.stack)) (record s { now = next }) e
  words (Primitive p) line next s at e = uses_shared p line next s at e (is_local p) refl
  words (Call w) line next s at e = calls_word (slice_get s.program.tree.words w) (record s { now = next }) e
  words (Bind n) line next s at e =
      either (nat_lt (length s.stack) (locked_of s.marks + n)) (step.fault_met (too_few n s.stack) (record s { now = next })) (goes 0 (record s { now = next; stack = drop n s.stack; variables = reverse (take n s.stack) ++ drop n s.variables })) (faults (too_few n s.stack) (record s { now = next }) e) (on e)
  words (Store v) line next s at e =
      answers (needing 1 (locked_of s.marks) s.stack (step.top_kept v.0 s.stack (record s { now = next }))) (record s { now = next }) e
  words Exit line next s at e = leaves_word (record s { now = next }) s.marks e
  words Break line next s at e = leaves_loop (record s { now = next }) s.marks e
  words Continue line next s at e = turns (record s { now = next }) s.marks e
  words While line next s at e =
      tests (record s { now = next }) (λ t. goes 0 t) (λ t. step.leave_loop t t.marks) e (λ rest. on e) (λ rest. leaves_loop (record s { now = next; stack = rest }) s.marks e)
  words NextIndex line next s at e = index_tests (record s { now = next }) s.marks e
  words NextPair line next s at e = pair_tests (record s { now = next }) s.marks e

  closers : (c : Closer) (s : Source) → programs_of s ≡ ps → Holds ps (step.close_unit c s)
  closers Semicolon s e = leaves_word s s.marks e
  closers Repeat s e = turns s s.marks e
  closers Until s e =
      tests s (λ t. step.leave_loop t t.marks) (λ t. step.next_round t t.marks) e (λ rest. leaves_loop (record s { stack = rest }) s.marks e) (λ rest. turns (record s { stack = rest }) s.marks e)

  ends_try : (s : Source) (ms : List Mark) → s.program ∷ callers_of ms ≡ ps → Holds ps (step.end_try s ms)
  ends_try s [] e = lost
  ends_try s (looping t round c last next end ∷ ms) e = lost
  ends_try s (trying locked next end ∷ ms) e = on e
  ends_try s (calling saved next end ∷ ms) e = lost
  ends_try s (entering caller saved next end ∷ ms) e = lost

  ends : (end : BlockEnd) (s : Source) → programs_of s ≡ ps → Holds ps (step.end_unit end s)
  ends (closes c line) s e = closers c s e
  ends (hops if_word line next end) s e = on e
  ends (hops try_word line next end) s e = ends_try (record s { now = next; end = end }) s.marks e

  tries : (stack : List Datum) (s : Source) (block : Block) (end : BlockEnd) (handler : Block) → programs_of s ≡ ps → Holds ps (step.try_count stack s block end handler)
  tries [] s block end handler e = faults BadType s e
  tries (int (pos n) ∷ rest) s block end handler e =
      either (nat_lt (length s.stack) (locked_of s.marks + (n + 1))) (step.fault_met (too_few (n + 1) s.stack) s) (step.construct_opening s (record s { stack = rest; now = block; end = end; marks = trying (length rest - n) handler s.end ∷ s.marks })) (faults (too_few (n + 1) s.stack) s e) (opens s (record s { stack = rest; now = block; end = end; marks = trying (length rest - n) handler s.end ∷ s.marks }) e e)
  tries (int (negsuc n) ∷ rest) s block end handler e = faults BadArgument s e
  tries (text t ∷ rest) s block end handler e = faults BadType s e
  tries (object d ∷ rest) s block end handler e = faults BadType s e
  tries (variable v ∷ rest) s block end handler e = faults BadType s e
  tries (address p w ∷ rest) s block end handler e = faults BadType s e
  tries (lock l ∷ rest) s block end handler e = faults BadType s e
  tries (items ds ∷ rest) s block end handler e = faults BadType s e
  tries (dict qs ∷ rest) s block end handler e = faults BadType s e
  tries (mark ∷ rest) s block end handler e = faults BadType s e

  forks : (k : Fork) (a : Block) (mid : ℕ) (b : Block) (s : Source) → programs_of s ≡ ps → Holds ps (step.fork_unit k a mid b s)
  forks if_word a mid b s e =
      tests s (λ t. goes 0 (record t { now = a; end = hops if_word mid t.now t.end })) (λ t. goes 0 (record t { now = then_block b t.now })) e (λ rest. on e) (λ rest. on e)
  forks try_word a mid b s e =
      either (nat_lt (length s.stack) (locked_of s.marks + 1)) (step.fault_met (too_few 1 s.stack) s) (step.try_count s.stack s a (hops try_word mid s.now s.end) (then_block b s.now)) (faults (too_few 1 s.stack) s e) (tries s.stack s a (hops try_word mid s.now s.end) (then_block b s.now) e)

  fors : (stack : List Datum) (s : Source) (body : Block) (c : Closer) (last : ℕ) → programs_of s ≡ ps → Holds ps (step.for_count stack s body c last)
  fors (int by ∷ int to ∷ int from ∷ rest) s body c last e =
      opens s (step.turning (indices (Some from) to by) rest body c last s) e e
  fors _ s body c last e = faults BadType s e

  eaches : (stack : List Datum) (s : Source) (body : Block) (c : Closer) (last : ℕ) → programs_of s ≡ ps → Holds ps (step.each_count stack s body c last)
  eaches (items ds ∷ rest) s body c last e = opens s (step.turning (pairs (step.values_numbered 0 ds)) rest body c last s) e e
  eaches (dict qs ∷ rest) s body c last e = opens s (step.turning (pairs (step.keyed qs)) rest body c last s) e e
  eaches _ s body c last e = faults BadType s e

  rings : (k : Ring) (body : Block) (c : Closer) (last : ℕ) (s : Source) → programs_of s ≡ ps → Holds ps (step.ring_unit k body c last s)
  rings begin_word body c last s e = lost
  rings for_word body c last s e =
      either (nat_lt (length s.stack) (locked_of s.marks + 3)) (step.fault_met (too_few 3 s.stack) s) (step.for_count s.stack s body c last) (faults (too_few 3 s.stack) s e) (fors s.stack s body c last e)
  rings each_word body c last s e =
      either (nat_lt (length s.stack) (locked_of s.marks + 1)) (step.fault_met (too_few 1 s.stack) s) (step.each_count s.stack s body c last) (faults (too_few 1 s.stack) s e) (eaches s.stack s body c last e)

  acts : (now : Block) (s : Source) → s.now ≡ now → programs_of s ≡ ps → Holds ps (step.act_at now s)
  acts stop s at e = ends s.end s e
  acts (word line w next) s at e = words w line next s at e
  acts (when line a next) s at e =
      tests (record s { now = next }) (λ t. goes 0 (record t { now = then_block a t.now })) (λ t. goes 0 t) e (λ rest. on e) (λ rest. on e)
  acts (fork k line a mid b next) s at e = forks k a mid b (record s { now = next }) e
  acts (ring k line body c last next) s at e = rings k body c last (record s { now = next }) e

  abbrev SettlesIn : Settled → Type 0
  SettlesIn (ready s) = programs_of s ≡ ps
  SettlesIn (crowded s) = programs_of s ≡ ps

  either_settled : (b : Bool) (x y : Settled) → SettlesIn x → SettlesIn y → SettlesIn (cond b x y)
  either_settled true x y h k = h
  either_settled false x y h k = k

  settles : (now : Block) (s : Source) → programs_of s ≡ ps → SettlesIn (step.settle_at now s)
  settles stop s e = e
  settles (word line w next) s e = e
  settles (when line a next) s e = e
  settles (fork k line a mid b next) s e = e
  settles (ring for_word line body c last next) s e = e
  settles (ring each_word line body c last next) s e = e
  settles (ring begin_word line body c last next) s e =
      either_settled (nat_lt (open_of s.marks) step.open_most) (step.settle_at body (step.turning plain s.stack body c last (record s { now = next }))) (crowded s) (settles body (step.turning plain s.stack body c last (record s { now = next })) e) e

  settled_acts : (x : Settled) → SettlesIn x → Holds ps (step.act x)
  settled_acts (ready s) e = acts s.now s refl e
  settled_acts (crowded s) e = faults CallsFull s e

-- a unit leaves as many programs as it says, and stands at the shared primitive that it asks for
pub unit_keeps : (s : Source) → Keeps (programs_of s) (unit s)
unit_keeps s =
    holds (programs_of s) (unit s) (settled_acts (programs_of s) (step.settle s) (settles (programs_of s) s.now s refl))

-- and so does a fault
pub fault_keeps : (f : MufFault) (s : Source) → Keeps (programs_of s) (step.fault_met f s)
fault_keeps f s = holds (programs_of s) (step.fault_met f s) (faults (programs_of s) f s refl)

-- many units leave as many programs as they say, too
then_keeps : (ps : List Program) (m : ℕ) (o : Outcome) → ((t : Source) → programs_of t ≡ ps → Keeps ps (units m t)) → Keeps ps o → Keeps ps (and_then o (units m))
then_keeps ps m (goes zero t) more h = more t h
then_keeps ps m (goes (suc k) t) more h = h
then_keeps ps m ended more h = tt
then_keeps ps m (faulted f) more h = tt
then_keeps ps m (asks p t) more h = h
then_keeps ps m stuck more h = tt

units_in : (ps : List Program) (m : ℕ) (s : Source) → programs_of s ≡ ps → Keeps ps (units m s)
units_in ps zero s e = e
units_in ps (suc m) s e = then_keeps ps m (unit s) (units_in ps m) (subst (λ qs. Keeps qs (unit s)) e (unit_keeps s))

pub units_keep : (m : ℕ) (s : Source) → Keeps (programs_of s) (units m s)
units_keep m s = units_in (programs_of s) m s refl

-- no more units are taken than may be
count_most : (m : ℕ) (o : Outcome) → ((t : Source) → taken m t ≤ m) → count o (taken m) ≤ suc m
count_most m (goes zero t) h = (let l = h t in omega arith)
count_most m (goes (suc k) t) h = omega arith
count_most m ended h = omega arith
count_most m (faulted f) h = omega arith
count_most m (asks p t) h = omega arith
count_most m stuck h = omega arith

pub taken_most : (m : ℕ) (s : Source) → taken m s ≤ m
taken_most zero s = omega arith
taken_most (suc m) s = count_most m (unit s) (taken_most m)

-- and one at least, but before a shared primitive
count_some : (m : ℕ) (o : Outcome) → ((p : Name) (t : Source) → and_then o (units m) ≡ asks p t → ⊥) → 1 ≤ count o (taken m)
count_some m (goes zero u) h = omega arith
count_some m (goes (suc k) u) h = omega arith
count_some m ended h = omega arith
count_some m (faulted f) h = omega arith
count_some m (asks p u) h = absurd (h p u refl)
count_some m stuck h = omega arith

pub taken_some : (m : ℕ) (s : Source) → 0 < m → ((p : Name) (t : Source) → units m s ≡ asks p t → ⊥) → 1 ≤ taken m s
taken_some zero s l h = absurd (omega (arith, l))
taken_some (suc m) s l h = count_some m (unit s) h
