-- Each instruction does to a frame what the item that it stands for does to the source state.
use Rattle.std.proofs.Common.{◌≡◌, ℕ, zero, suc, ◌+◌, ◌-◌, ◌<◌, ◌≤◌, List, [], ◌∷◌, ◌++◌, length, drop, Option, Some, None, Bool, true, false, cond, sym, ap, refl, subst, ◌∙◌, arith}
use Rattle.std.specs.Prelude.{slice_get, slice_set, nat_lt, pos, negsuc}
use Rattle.std.proofs.lemmas.Bool.{lt-ltb, le-ltb}
use Rattle.std.proofs.Math.Seq.{drop-append_seam, take-append_seam}
use Rattle.muf_model.specs.declared.code.Word.{Word}
use Rattle.muf_model.specs.declared.code.Word.TheVariants.{Literal, Variable, Address, Primitive, Call, Bind, Store, Exit, Break, Continue, While, NextIndex, NextPair}
use Rattle.muf_model.specs.declared.code.Closer.{Closer}
use Rattle.muf_model.specs.declared.code.Closer.TheVariants.{Semicolon, Repeat, Until}
use Rattle.muf_model.specs.declared.code.Instr.{Instr}
use Rattle.muf_model.specs.declared.code.Instr.TheVariants.{Plain, Close, When, Begin}
use Rattle.muf_model.specs.declared.code.CodeWord.{CodeWord}
use Rattle.muf_model.specs.declared.code.Placed.{Placed}
use Rattle.muf_model.specs.declared.code.Code.{Code}
use Rattle.muf_model.specs.declared.fault.MufFault.{MufFault}
use Rattle.muf_model.specs.declared.fault.MufFault.TheVariants.{StackEmpty, StackFull, CallsFull, BadType, BadArgument, BadAddress}
use Rattle.muf_model.specs.declared.prims.Primitive.{Primitive as Name}
use Rattle.muf_model.specs.Prims.{is_local}
use Rattle.muf_model.specs.Faults.{fault_text, is_final}
use Rattle.muf_model.specs.Datum.{Datum, int, text, object, variable, address, lock, items, dict, mark}
use Rattle.muf_model.specs.Measures.{is_true_item}
use Rattle.muf_model.specs.Answer.{Answer, gives, stores, calls as calling_answer, refuses, stack_fitting, too_few, stack_most, variable_at, owned_first, call_first}
use Rattle.muf_model.specs.StackRows.{item_stored}
use Rattle.muf_model.specs.Rows.{primitive}
use Rattle.muf_model.specs.Tree.{Fork, if_word, try_word, begin_word, for_word, each_word, Block, stop, word, when, fork, ring, BlockEnd, closes, hops, then_block, Definition}
use Rattle.muf_model.specs.inner.Stands.{Stands, Remains, IsAt, hop_instr, fork_instr, ring_instr, WordsStand, TreeStands}
use Rattle.muf_model.specs.inner.Decode.{placed_or}
use Rattle.muf_model.specs.Source as source
use Rattle.muf_model.specs.Source.{Turns, plain, indices, pairs, Program, Mark, looping, trying, calling, entering, Owned, Source, zeros, locked_of, calls_running, open_of, variables_owned_by, with_owned}
use Rattle.muf_model.specs.Unit as source_unit
use Rattle.muf_model.specs.Unit.{Outcome, goes, ended, faulted, asks, calls_most, open_most, constant, has_turn, next_index, values_numbered, keyed, unit}
use Rattle.muf_model.specs.inner.Flat.{FlatMark, loop, Flat}
use Rattle.muf_model.specs.inner.Fits.{MarksFit, none, loops, tries, calls, enters, FitsState, fit}
use Rattle.muf_model.proofs.Standing.{stands_map, joins}
use Rattle.muf_frame.specs.inner.Shown.{locked_by, calls_by, opened_by}
use Rattle.muf_frame.specs.inner.Moves.{unwound, scope_of}
use Rattle.muf_frame.specs.inner.Answers.{int_at}
use Rattle.muf_run.specs.inner.Machine as machine
use Rattle.muf_run.specs.inner.Machine.{Next, going, at_end, broken, asking, stuck, after_fault}
use Rattle.muf_run.specs.inner.Alike.{EndsAlike}

-- a frame and the state that it stands for, where the variables of the calls below the innermost one stand apart
abbrev flat_at : List Datum → List Datum → List Owned → List Datum → List Datum → Program → ℕ → List FlatMark → Flat
flat_at stack common owned below vars program place ns =
    record { stack = stack; common = common; owned = owned; variables = below ++ vars; base = length below; program = program.number; place = place; marks = ns }

abbrev state_at : List Datum → List Datum → List Owned → List Datum → Program → Block → BlockEnd → List Mark → Source
state_at stack common owned vars program now end ms =
    record { stack = stack; common = common; owned = owned; variables = vars; program = program; now = now; end = end; marks = ms }

-- the codes below
drop_next : (k : ℕ) (xs : List Code) (x : Code) (rest : List Code) → drop k xs ≡ x ∷ rest → drop (suc k) xs ≡ rest
drop_next zero [] x rest e = cc
drop_next zero (y ∷ xs) x rest e = cc
drop_next (suc k) [] x rest e = cc
drop_next (suc k) (y ∷ xs) x rest e = drop_next k xs x rest e

cond_alike : (codes : List Code) (b : Bool) (x y : Next) (x' y' : Outcome) → EndsAlike codes x x' → EndsAlike codes y y' → EndsAlike codes (cond b x y) (cond b x' y')
cond_alike codes true x y x' y' h k = h
cond_alike codes false x y x' y' h k = k

locked_alike : {codes : List Code} {ms : List Mark} {ns : List FlatMark} {below : List Datum} → MarksFit codes ms ns below → locked_by ns ≡ locked_of ms
locked_alike none = refl
locked_alike (loops a b m) = locked_alike m
locked_alike (tries a m) = refl
locked_alike (calls a m) = locked_alike m
locked_alike (enters q a m) = locked_alike m

calls_alike : {codes : List Code} {ms : List Mark} {ns : List FlatMark} {below : List Datum} → MarksFit codes ms ns below → calls_by ns ≡ calls_running ms
calls_alike none = refl
calls_alike (loops a b m) = calls_alike m
calls_alike (tries a m) = calls_alike m
calls_alike (calls a m) = ap suc (calls_alike m)
calls_alike (enters q a m) = ap suc (calls_alike m)

open_alike : {codes : List Code} {ms : List Mark} {ns : List FlatMark} {below : List Datum} → MarksFit codes ms ns below → opened_by ns ≡ open_of ms
open_alike none = refl
open_alike (loops a b m) = ap suc (open_alike m)
open_alike (tries a m) = ap suc (open_alike m)
open_alike (calls a m) = open_alike m
open_alike (enters q a m) = open_alike m

-- back to the nearest TRY, where k programs are left already
unwind_alike : (f : MufFault) (k : ℕ) (all : List Code) (stack common vars : List Datum) (owned : List Owned) (program : Program) (place : ℕ) (now : Block) (end : BlockEnd) (old : List Mark) (older : List FlatMark) {code : Code} {codes : List Code} {ms : List Mark} {ns : List FlatMark} {below : List Datum} → drop k all ≡ code ∷ codes → TreeStands code program.tree → MarksFit (code ∷ codes) ms ns below → EndsAlike all (after_fault f (unwound (fault_text f) k (flat_at stack common owned below vars program place older) ns)) (source_unit.unwind f k (state_at stack common owned vars program now end old) ms)
unwind_alike f k all stack common vars owned program place now end old older e p none = refl
unwind_alike f k all stack common vars owned program place now end old older e p (loops {ns} a b m) =
    unwind_alike f k all stack common vars owned program place now end old ns e p m
unwind_alike f k all stack common vars owned program place now end old older e p (tries a m) = (refl, rw e (fit p a m))
unwind_alike f k all stack common vars owned program place now end old older e p (calls {saved} {ns} {below} a m) =
    rw (take-append_seam (below ++ saved) vars) (unwind_alike f k all stack common saved owned program place now end old ns e p m)
unwind_alike f k all stack common vars owned program place now end old older e p (enters {program = caller} {saved} {ns} {below} q a m) =
    rw (take-append_seam (below ++ saved) vars) (unwind_alike f (suc k) all stack common saved owned caller place now end old ns (drop_next k all _ _ e) q m)

final_alike : (all : List Code) (f : MufFault) (b : Bool) (x : Option (ℕ × Flat)) (y : Outcome) → EndsAlike all (after_fault f x) y → EndsAlike all (after_fault f (cond b None x)) (cond b (faulted f) y)
final_alike all f true x y h = refl
final_alike all f false x y h = h

leave_word_alike : (stack common vars : List Datum) (owned : List Owned) (program : Program) (place : ℕ) (now : Block) (end : BlockEnd) (old : List Mark) (older : List FlatMark) {code : Code} {codes : List Code} {ms : List Mark} {ns : List FlatMark} {below : List Datum} → TreeStands code program.tree → MarksFit (code ∷ codes) ms ns below → EndsAlike (code ∷ codes) (machine.leave_word (flat_at stack common owned below vars program place older) ns) (source_unit.leave_word (state_at stack common owned vars program now end old) ms)
leave_word_alike stack common vars owned program place now end old older p none = tt
leave_word_alike stack common vars owned program place now end old older p (loops {ns} a b m) = leave_word_alike stack common vars owned program place now end old ns p m
leave_word_alike stack common vars owned program place now end old older p (tries {ns} a m) = leave_word_alike stack common vars owned program place now end old ns p m
leave_word_alike stack common vars owned program place now end old older p (calls {saved} {below} a m) = rw (take-append_seam (below ++ saved) vars) (refl, fit p a m)
leave_word_alike stack common vars owned program place now end old older p (enters {saved} {below} q a m) = rw (take-append_seam (below ++ saved) vars) (refl, fit q a m)

leave_loop_alike : (stack common vars : List Datum) (owned : List Owned) (program : Program) (place : ℕ) (now : Block) (end : BlockEnd) (old : List Mark) (older : List FlatMark) {code : Code} {codes : List Code} {ms : List Mark} {ns : List FlatMark} {below : List Datum} → TreeStands code program.tree → MarksFit (code ∷ codes) ms ns below → EndsAlike (code ∷ codes) (machine.leave_loop (flat_at stack common owned below vars program place older) ns) (source_unit.leave_loop (state_at stack common owned vars program now end old) ms)
leave_loop_alike stack common vars owned program place now end old older p none = tt
leave_loop_alike stack common vars owned program place now end old older p (loops a b m) = (refl, fit p b m)
leave_loop_alike stack common vars owned program place now end old older p (tries {ns} a m) = leave_loop_alike stack common vars owned program place now end old ns p m
leave_loop_alike stack common vars owned program place now end old older p (calls a m) = tt
leave_loop_alike stack common vars owned program place now end old older p (enters q a m) = tt

next_turn_alike : (stack common vars : List Datum) (owned : List Owned) (program : Program) (place : ℕ) (now : Block) (end : BlockEnd) (old : List Mark) (older : List FlatMark) {code : Code} {codes : List Code} {ms : List Mark} {ns : List FlatMark} {below : List Datum} → TreeStands code program.tree → MarksFit (code ∷ codes) ms ns below → EndsAlike (code ∷ codes) (machine.next_turn (flat_at stack common owned below vars program place older) ns) (source_unit.next_round (state_at stack common owned vars program now end old) ms)
next_turn_alike stack common vars owned program place now end old older p none = tt
next_turn_alike stack common vars owned program place now end old older p (loops a b m) = (refl, fit p a (loops a b m))
next_turn_alike stack common vars owned program place now end old older p (tries {ns} a m) = next_turn_alike stack common vars owned program place now end old ns p m
next_turn_alike stack common vars owned program place now end old older p (calls a m) = tt
next_turn_alike stack common vars owned program place now end old older p (enters q a m) = tt

set_back : (xs ys : List Datum) (i : ℕ) (x : Datum) → slice_set (xs ++ ys) (length xs + i) x ≡ xs ++ slice_set ys i x
set_back [] ys i x = let e : 0 + i ≡ i = omega arith in rw e refl
set_back (y ∷ xs) ys i x = let e : suc (length xs) + i ≡ suc (length xs + i) = omega arith in rw e (ap (λ l. y ∷ l) (set_back xs ys i x))

drop_behind : (xs ys : List Datum) (n : ℕ) → drop (length xs + n) (xs ++ ys) ≡ drop n ys
drop_behind [] ys n = let e : 0 + n ≡ n = omega arith in rw e refl
drop_behind (x ∷ xs) ys n = let e : suc (length xs) + n ≡ suc (length xs + n) = omega arith in rw e (drop_behind xs ys n)

words_length : (code : List Placed) (ws : List CodeWord) (ds : List Definition) → WordsStand code ws ds → length ws ≡ length ds
words_length code [] [] h = refl
words_length code (w ∷ ws) (d ∷ ds) h = ap suc (words_length code ws ds h.1)
words_length code [] (d ∷ ds) h = absurd h
words_length code (w ∷ ws) [] h = absurd h

-- a state for which a frame stands, but for its stack, its place and its items
module _ (code : Code) (codes : List Code) (common vars below : List Datum) (owned : List Owned) (program : Program) (ms : List Mark) (ns : List FlatMark) (p : TreeStands code program.tree) (m : MarksFit (code ∷ codes) ms ns below) where
  refused : (f : MufFault) (stack : List Datum) (place : ℕ) (now : Block) (end : BlockEnd) → EndsAlike (code ∷ codes) (machine.fault f (flat_at stack common owned below vars program place ns)) (source_unit.fault_met f (state_at stack common owned vars program now end ms))
  refused f stack place now end =
      final_alike (code ∷ codes) f (is_final f) _ _ (unwind_alike f 0 (code ∷ codes) stack common vars owned program place now end ms ns refl p m)

  test_alike : (stack : List Datum) (place : ℕ) (now : Block) (end : BlockEnd) (f g : Flat → Next) (f' g' : Source → Outcome) → ((rest : List Datum) → EndsAlike (code ∷ codes) (f (flat_at rest common owned below vars program place ns)) (f' (state_at rest common owned vars program now end ms))) → ((rest : List Datum) → EndsAlike (code ∷ codes) (g (flat_at rest common owned below vars program place ns)) (g' (state_at rest common owned vars program now end ms))) → EndsAlike (code ∷ codes) (machine.test (flat_at stack common owned below vars program place ns) f g) (source_unit.test (state_at stack common owned vars program now end ms) f' g')
  test_alike [] place now end f g f' g' hf hg =
      rw (locked_alike m) (cond_alike (code ∷ codes) (nat_lt 0 (locked_of ms + 1)) _ _ _ _ (refused (too_few 1 []) [] place now end) (refused StackEmpty [] place now end))
  test_alike (x ∷ rest) place now end f g f' g' hf hg =
      rw (locked_alike m) (cond_alike (code ∷ codes) (nat_lt (length (x ∷ rest)) (locked_of ms + 1)) _ _ _ _ (refused (too_few 1 (x ∷ rest)) (x ∷ rest) place now end) (cond_alike (code ∷ codes) (is_true_item x) _ _ _ _ (hf rest) (hg rest)))

  opening_alike : (stack : List Datum) (place : ℕ) (now : Block) (end : BlockEnd) (x : Flat) (y : Source) → FitsState (code ∷ codes) x y → EndsAlike (code ∷ codes) (machine.opening (flat_at stack common owned below vars program place ns) x) (source_unit.construct_opening (state_at stack common owned vars program now end ms) y)
  opening_alike stack place now end x y h =
      rw (open_alike m) (cond_alike (code ∷ codes) (nat_lt (open_of ms) open_most) _ _ _ _ (refl, h) (refused CallsFull stack place now end))

  call_alike : (w : ℕ) (ds : List Definition) (ws : List CodeWord) → WordsStand code.placed ws ds → (stack : List Datum) (place : ℕ) (next : Block) (end : BlockEnd) → Remains code.placed place next end → EndsAlike (code ∷ codes) (machine.call (slice_get ws w) (flat_at stack common owned below vars program place ns)) (source_unit.word_call (slice_get ds w) (state_at stack common owned vars program next end ms))
  call_alike w [] [] h stack place next end a = refused BadAddress stack place next end
  call_alike zero (d ∷ ds) (v ∷ ws) h stack place next end a =
      rw (calls_alike m, h.0.variables) (cond_alike (code ∷ codes) (nat_lt (calls_running ms) calls_most) _ _ _ _ (refl, fit p h.0.body (calls a m)) (refused CallsFull stack place next end))
  call_alike (suc w) (d ∷ ds) (v ∷ ws) h stack place next end a = call_alike w ds ws h.1 stack place next end a
  call_alike w [] (v ∷ ws) h stack place next end a = absurd h
  call_alike w (d ∷ ds) [] h stack place next end a = absurd h

  store_alike : (v : ℕ) (x : Datum) (early mine : Bool) (stack : List Datum) (place : ℕ) (next : Block) (end : BlockEnd) → Remains code.placed place next end → EndsAlike (code ∷ codes) (going 0 (cond early (record (flat_at stack common owned below vars program place ns) { common = slice_set common v x }) (cond mine (record (flat_at stack common owned below vars program place ns) { owned = with_owned program.number (slice_set (variables_owned_by program.number owned) (v - owned_first) x) owned }) (record (flat_at stack common owned below vars program place ns) { variables = slice_set (below ++ vars) (length below + (v - call_first)) x })))) (goes 0 (cond early (record (state_at stack common owned vars program next end ms) { common = slice_set common v x }) (cond mine (record (state_at stack common owned vars program next end ms) { owned = with_owned program.number (slice_set (variables_owned_by program.number owned) (v - owned_first) x) owned }) (record (state_at stack common owned vars program next end ms) { variables = slice_set vars (v - call_first) x }))))
  store_alike v x true mine stack place next end a = (refl, fit p a m)
  store_alike v x false true stack place next end a = (refl, fit p a m)
  store_alike v x false false stack place next end a = rw (set_back below vars (v - call_first) x) (refl, fit p a m)

  answered_alike : (w : Answer) (stack : List Datum) (place : ℕ) (next : Block) (end : BlockEnd) → Remains code.placed place next end → EndsAlike (code ∷ codes) (machine.answered code w (flat_at stack common owned below vars program place ns)) (source_unit.primitive_answered w (state_at stack common owned vars program next end ms))
  answered_alike (gives rest) stack place next end a = (refl, fit p a m)
  answered_alike (stores v x rest) stack place next end a = store_alike v x (nat_lt v owned_first) (nat_lt v call_first) rest place next end a
  answered_alike (calling_answer w rest) stack place next end a = call_alike w program.tree.words code.words p.words rest place next end a
  answered_alike (refuses f) stack place next end a = refused f stack place next end

  scope_alike : (stack : List Datum) (place : ℕ) (next : Block) (end : BlockEnd) → scope_of (length code.words) (flat_at stack common owned below vars program place ns) ≡ source.scope_of (state_at stack common owned vars program next end ms)
  scope_alike stack place next end =
      rw (drop-append_seam below vars, words_length code.placed code.words program.tree.words p.words, locked_alike m) refl

  bound_alike : (n : ℕ) (stack : List Datum) (place : ℕ) (next : Block) (end : BlockEnd) → Remains code.placed place next end → EndsAlike (code ∷ codes) (machine.bound n (flat_at stack common owned below vars program place ns)) (source_unit.bound n (state_at stack common owned vars program next end ms))
  bound_alike n stack place next end a =
      rw (locked_alike m, drop_behind below vars n, take-append_seam below vars) (cond_alike (code ∷ codes) (nat_lt (length stack) (locked_of ms + n)) _ _ _ _ (refused (too_few n stack) stack place next end) (refl, fit p a m))

  placed_alike : (full : Bool) (new stack : List Datum) (place : ℕ) (next : Block) (end : BlockEnd) → Remains code.placed place next end → EndsAlike (code ∷ codes) (cond full (machine.fault StackFull (flat_at stack common owned below vars program place ns)) (going 0 (flat_at new common owned below vars program place ns))) (source_unit.primitive_answered (cond full (refuses StackFull) (gives new)) (state_at stack common owned vars program next end ms))
  placed_alike true new stack place next end a = refused StackFull stack place next end
  placed_alike false new stack place next end a = (refl, fit p a m)

  -- a stack, where it isn't too long
  placing : (new stack : List Datum) (place : ℕ) (next : Block) (end : BlockEnd) → Remains code.placed place next end → EndsAlike (code ∷ codes) (machine.placed new (flat_at stack common owned below vars program place ns)) (source_unit.primitive_answered (stack_fitting new) (state_at stack common owned vars program next end ms))
  placing new stack place next end a = placed_alike (nat_lt stack_most (length new)) new stack place next end a

  kept_in_alike : (o : Option Datum) (v : ℕ) (x : Datum) (rest stack : List Datum) (place : ℕ) (next : Block) (end : BlockEnd) → Remains code.placed place next end → EndsAlike (code ∷ codes) (machine.kept_in o v x rest (flat_at stack common owned below vars program place ns)) (source_unit.primitive_answered (item_stored o v x rest) (state_at stack common owned vars program next end ms))
  kept_in_alike (Some old) v x rest stack place next end a = answered_alike (stores v x rest) stack place next end a
  kept_in_alike None v x rest stack place next end a = refused BadArgument stack place next end

  kept_alike : (v : ℕ) (stack : List Datum) (place : ℕ) (next : Block) (end : BlockEnd) → Remains code.placed place next end → EndsAlike (code ∷ codes) (machine.kept v stack (flat_at stack common owned below vars program place ns)) (source_unit.primitive_answered (source_unit.top_kept v stack (state_at stack common owned vars program next end ms)) (state_at stack common owned vars program next end ms))
  kept_alike v [] place next end a = refused StackEmpty [] place next end
  kept_alike v (x ∷ rest) place next end a =
      rw (drop-append_seam below vars) (kept_in_alike (variable_at v (source.scope_of (state_at (x ∷ rest) common owned vars program next end ms))) v x rest (x ∷ rest) place next end a)

  needing_alike : (few : Bool) (f : MufFault) (w : Answer) (x : Next) (stack : List Datum) (place : ℕ) (next : Block) (end : BlockEnd) → EndsAlike (code ∷ codes) x (source_unit.primitive_answered w (state_at stack common owned vars program next end ms)) → EndsAlike (code ∷ codes) (cond few (machine.fault f (flat_at stack common owned below vars program place ns)) x) (source_unit.primitive_answered (cond few (refuses f) w) (state_at stack common owned vars program next end ms))
  needing_alike true f w x stack place next end h = refused f stack place next end
  needing_alike false f w x stack place next end h = h

  keeping_alike : (v : ℕ) (stack : List Datum) (place : ℕ) (next : Block) (end : BlockEnd) → Remains code.placed place next end → EndsAlike (code ∷ codes) (machine.keeping v (flat_at stack common owned below vars program place ns)) (source_unit.keeping v (state_at stack common owned vars program next end ms))
  keeping_alike v stack place next end a =
      rw (locked_alike m) (needing_alike (nat_lt (length stack) (locked_of ms + 1)) (too_few 1 stack) _ _ stack place next end (kept_alike v stack place next end a))

  for_alike : (stack : List Datum) (place : ℕ) (next : Block) (end : BlockEnd) (body : Block) (c : Closer) (last after : ℕ) → Remains code.placed place body (closes c last) → Remains code.placed after next end → EndsAlike (code ∷ codes) (machine.for_count (int_at 0 stack) (int_at 1 stack) (int_at 2 stack) after (flat_at stack common owned below vars program place ns)) (source_unit.for_count stack (state_at stack common owned vars program next end ms) body c last)
  for_alike [] place next end body c last after a b = refused BadType [] place next end
  for_alike (text t ∷ rest) place next end body c last after a b = refused BadType (text t ∷ rest) place next end
  for_alike (object o ∷ rest) place next end body c last after a b = refused BadType (object o ∷ rest) place next end
  for_alike (variable v ∷ rest) place next end body c last after a b = refused BadType (variable v ∷ rest) place next end
  for_alike (address q w ∷ rest) place next end body c last after a b = refused BadType (address q w ∷ rest) place next end
  for_alike (lock l ∷ rest) place next end body c last after a b = refused BadType (lock l ∷ rest) place next end
  for_alike (items ds ∷ rest) place next end body c last after a b = refused BadType (items ds ∷ rest) place next end
  for_alike (dict ps ∷ rest) place next end body c last after a b = refused BadType (dict ps ∷ rest) place next end
  for_alike (mark ∷ rest) place next end body c last after a b = refused BadType (mark ∷ rest) place next end
  for_alike (int z ∷ []) place next end body c last after a b = refused BadType (int z ∷ []) place next end
  for_alike (int z ∷ text t ∷ rest) place next end body c last after a b = refused BadType (int z ∷ text t ∷ rest) place next end
  for_alike (int z ∷ object o ∷ rest) place next end body c last after a b = refused BadType (int z ∷ object o ∷ rest) place next end
  for_alike (int z ∷ variable v ∷ rest) place next end body c last after a b = refused BadType (int z ∷ variable v ∷ rest) place next end
  for_alike (int z ∷ address q w ∷ rest) place next end body c last after a b = refused BadType (int z ∷ address q w ∷ rest) place next end
  for_alike (int z ∷ lock l ∷ rest) place next end body c last after a b = refused BadType (int z ∷ lock l ∷ rest) place next end
  for_alike (int z ∷ items ds ∷ rest) place next end body c last after a b = refused BadType (int z ∷ items ds ∷ rest) place next end
  for_alike (int z ∷ dict ps ∷ rest) place next end body c last after a b = refused BadType (int z ∷ dict ps ∷ rest) place next end
  for_alike (int z ∷ mark ∷ rest) place next end body c last after a b = refused BadType (int z ∷ mark ∷ rest) place next end
  for_alike (int z ∷ int y ∷ []) place next end body c last after a b = refused BadType (int z ∷ int y ∷ []) place next end
  for_alike (int z ∷ int y ∷ text t ∷ rest) place next end body c last after a b = refused BadType (int z ∷ int y ∷ text t ∷ rest) place next end
  for_alike (int z ∷ int y ∷ object o ∷ rest) place next end body c last after a b = refused BadType (int z ∷ int y ∷ object o ∷ rest) place next end
  for_alike (int z ∷ int y ∷ variable v ∷ rest) place next end body c last after a b = refused BadType (int z ∷ int y ∷ variable v ∷ rest) place next end
  for_alike (int z ∷ int y ∷ address q w ∷ rest) place next end body c last after a b = refused BadType (int z ∷ int y ∷ address q w ∷ rest) place next end
  for_alike (int z ∷ int y ∷ lock l ∷ rest) place next end body c last after a b = refused BadType (int z ∷ int y ∷ lock l ∷ rest) place next end
  for_alike (int z ∷ int y ∷ items ds ∷ rest) place next end body c last after a b = refused BadType (int z ∷ int y ∷ items ds ∷ rest) place next end
  for_alike (int z ∷ int y ∷ dict ps ∷ rest) place next end body c last after a b = refused BadType (int z ∷ int y ∷ dict ps ∷ rest) place next end
  for_alike (int z ∷ int y ∷ mark ∷ rest) place next end body c last after a b = refused BadType (int z ∷ int y ∷ mark ∷ rest) place next end
  for_alike (int z ∷ int y ∷ int x ∷ rest) place next end body c last after a b =
      opening_alike (int z ∷ int y ∷ int x ∷ rest) place next end _ _ (fit p a (loops a b m))

  each_alike : (stack : List Datum) (place : ℕ) (next : Block) (end : BlockEnd) (body : Block) (c : Closer) (last after : ℕ) → Remains code.placed place body (closes c last) → Remains code.placed after next end → EndsAlike (code ∷ codes) (machine.each_count (machine.keys_at stack) after (flat_at stack common owned below vars program place ns)) (source_unit.each_count stack (state_at stack common owned vars program next end ms) body c last)
  each_alike [] place next end body c last after a b = refused BadType [] place next end
  each_alike (int z ∷ rest) place next end body c last after a b = refused BadType (int z ∷ rest) place next end
  each_alike (text t ∷ rest) place next end body c last after a b = refused BadType (text t ∷ rest) place next end
  each_alike (object o ∷ rest) place next end body c last after a b = refused BadType (object o ∷ rest) place next end
  each_alike (variable v ∷ rest) place next end body c last after a b = refused BadType (variable v ∷ rest) place next end
  each_alike (address q w ∷ rest) place next end body c last after a b = refused BadType (address q w ∷ rest) place next end
  each_alike (lock l ∷ rest) place next end body c last after a b = refused BadType (lock l ∷ rest) place next end
  each_alike (mark ∷ rest) place next end body c last after a b = refused BadType (mark ∷ rest) place next end
  each_alike (items ds ∷ rest) place next end body c last after a b =
      opening_alike (items ds ∷ rest) place next end _ _ (fit p a (loops a b m))
  each_alike (dict ps ∷ rest) place next end body c last after a b =
      opening_alike (dict ps ∷ rest) place next end _ _ (fit p a (loops a b m))

  try_alike : (stack : List Datum) (place : ℕ) (next : Block) (end : BlockEnd) (block : Block) (at : BlockEnd) (handler : Block) (to : ℕ) → Remains code.placed place block at → Remains code.placed to handler end → EndsAlike (code ∷ codes) (machine.try_count (int_at 0 stack) to (flat_at stack common owned below vars program place ns)) (source_unit.try_count stack (state_at stack common owned vars program next end ms) block at handler)
  try_alike [] place next end block at handler to a b = refused BadType [] place next end
  try_alike (text t ∷ rest) place next end block at handler to a b = refused BadType (text t ∷ rest) place next end
  try_alike (object o ∷ rest) place next end block at handler to a b = refused BadType (object o ∷ rest) place next end
  try_alike (variable v ∷ rest) place next end block at handler to a b = refused BadType (variable v ∷ rest) place next end
  try_alike (address q w ∷ rest) place next end block at handler to a b = refused BadType (address q w ∷ rest) place next end
  try_alike (lock l ∷ rest) place next end block at handler to a b = refused BadType (lock l ∷ rest) place next end
  try_alike (items ds ∷ rest) place next end block at handler to a b = refused BadType (items ds ∷ rest) place next end
  try_alike (dict ps ∷ rest) place next end block at handler to a b = refused BadType (dict ps ∷ rest) place next end
  try_alike (mark ∷ rest) place next end block at handler to a b = refused BadType (mark ∷ rest) place next end
  try_alike (int (negsuc n) ∷ rest) place next end block at handler to a b = refused BadArgument (int (negsuc n) ∷ rest) place next end
  try_alike (int (pos n) ∷ rest) place next end block at handler to a b =
      rw (locked_alike m) (cond_alike (code ∷ codes) (nat_lt (length (int (pos n) ∷ rest)) (locked_of ms + (n + 1))) _ _ _ _ (refused (too_few (n + 1) (int (pos n) ∷ rest)) (int (pos n) ∷ rest) place next end) (opening_alike (int (pos n) ∷ rest) place next end _ _ (fit p a (tries b m))))

  close_alike : (c : Closer) (stack : List Datum) (place : ℕ) (now : Block) (end : BlockEnd) → EndsAlike (code ∷ codes) (machine.close c (flat_at stack common owned below vars program place ns)) (source_unit.close_unit c (state_at stack common owned vars program now end ms))
  close_alike Semicolon stack place now end = leave_word_alike stack common vars owned program place now end ms ns p m
  close_alike Repeat stack place now end = next_turn_alike stack common vars owned program place now end ms ns p m
  close_alike Until stack place now end =
      test_alike stack place now end _ _ _ _ (λ rest. leave_loop_alike rest common vars owned program place now end ms ns p m) (λ rest. next_turn_alike rest common vars owned program place now end ms ns p m)

-- the tests at the head of a turn
turn_alike : (t : Turns) (stack common vars : List Datum) (owned : List Owned) (program : Program) (place again after : ℕ) (now round next : Block) (c : Closer) (last : ℕ) (end e : BlockEnd) {code : Code} {codes : List Code} {ms : List Mark} {ns : List FlatMark} {below : List Datum} → TreeStands code program.tree → Remains code.placed place now end → Remains code.placed again round (closes c last) → Remains code.placed after next e → MarksFit (code ∷ codes) ms ns below → EndsAlike (code ∷ codes) (machine.index_test (flat_at stack common owned below vars program place (loop t again after ∷ ns)) (loop t again after ∷ ns)) (source_unit.index_test (state_at stack common owned vars program now end (looping t round c last next e ∷ ms)) (looping t round c last next e ∷ ms))
turn_alike plain stack common vars owned program place again after now round next c last end e p a x y m = tt
turn_alike (pairs left) stack common vars owned program place again after now round next c last end e p a x y m = tt
turn_alike (indices None most step) stack common vars owned program place again after now round next c last end e p a x y m = (refl, fit p y m)
turn_alike (indices (Some i) most step) stack common vars owned program place again after now round next c last end e {code} {codes} {ms} {ns} {below} p a x y m =
    cond_alike (code ∷ codes) (has_turn i most step) _ _ _ _ (placing code codes common vars below owned program _ _ p (loops x y m) (int i ∷ stack) stack place now end a) (refl, fit p y m)

index_alike : (stack common vars : List Datum) (owned : List Owned) (program : Program) (place : ℕ) (now : Block) (end : BlockEnd) {code : Code} {codes : List Code} {ms : List Mark} {ns : List FlatMark} {below : List Datum} → TreeStands code program.tree → Remains code.placed place now end → MarksFit (code ∷ codes) ms ns below → EndsAlike (code ∷ codes) (machine.index_test (flat_at stack common owned below vars program place ns) ns) (source_unit.index_test (state_at stack common owned vars program now end ms) ms)
index_alike stack common vars owned program place now end p a none = tt
index_alike stack common vars owned program place now end p a (loops {t} {round} {next} {c} {last} {end = e} {again} {after} x y m) =
    turn_alike t stack common vars owned program place again after now round next c last end e p a x y m
index_alike stack common vars owned program place now end p a (tries x m) = tt
index_alike stack common vars owned program place now end p a (calls x m) = tt
index_alike stack common vars owned program place now end p a (enters q x m) = tt

keys_alike : (t : Turns) (stack common vars : List Datum) (owned : List Owned) (program : Program) (place again after : ℕ) (now round next : Block) (c : Closer) (last : ℕ) (end e : BlockEnd) {code : Code} {codes : List Code} {ms : List Mark} {ns : List FlatMark} {below : List Datum} → TreeStands code program.tree → Remains code.placed place now end → Remains code.placed again round (closes c last) → Remains code.placed after next e → MarksFit (code ∷ codes) ms ns below → EndsAlike (code ∷ codes) (machine.pair_test (flat_at stack common owned below vars program place (loop t again after ∷ ns)) (loop t again after ∷ ns)) (source_unit.pair_test (state_at stack common owned vars program now end (looping t round c last next e ∷ ms)) (looping t round c last next e ∷ ms))
keys_alike plain stack common vars owned program place again after now round next c last end e p a x y m = tt
keys_alike (indices i most step) stack common vars owned program place again after now round next c last end e p a x y m = tt
keys_alike (pairs []) stack common vars owned program place again after now round next c last end e p a x y m = (refl, fit p y m)
keys_alike (pairs ((k, v) ∷ left)) stack common vars owned program place again after now round next c last end e {code} {codes} {below} p a x y m =
    placing code codes common vars below owned program _ _ p (loops x y m) (v ∷ k ∷ stack) stack place now end a

pair_alike : (stack common vars : List Datum) (owned : List Owned) (program : Program) (place : ℕ) (now : Block) (end : BlockEnd) {code : Code} {codes : List Code} {ms : List Mark} {ns : List FlatMark} {below : List Datum} → TreeStands code program.tree → Remains code.placed place now end → MarksFit (code ∷ codes) ms ns below → EndsAlike (code ∷ codes) (machine.pair_test (flat_at stack common owned below vars program place ns) ns) (source_unit.pair_test (state_at stack common owned vars program now end ms) ms)
pair_alike stack common vars owned program place now end p a none = tt
pair_alike stack common vars owned program place now end p a (loops {t} {round} {next} {c} {last} {end = e} {again} {after} x y m) =
    keys_alike t stack common vars owned program place again after now round next c last end e p a x y m
pair_alike stack common vars owned program place now end p a (tries x m) = tt
pair_alike stack common vars owned program place now end p a (calls x m) = tt
pair_alike stack common vars owned program place now end p a (enters q x m) = tt

end_try_alike : (stack common vars : List Datum) (owned : List Owned) (program : Program) (from place : ℕ) (now : Block) (end : BlockEnd) {code : Code} {codes : List Code} {ms : List Mark} {ns : List FlatMark} {below : List Datum} → TreeStands code program.tree → Remains code.placed place now end → MarksFit (code ∷ codes) ms ns below → EndsAlike (code ∷ codes) (machine.end_try place (flat_at stack common owned below vars program from ns) ns) (source_unit.end_try (state_at stack common owned vars program now end ms) ms)
end_try_alike stack common vars owned program from place now end p a none = tt
end_try_alike stack common vars owned program from place now end p a (loops x y m) = tt
end_try_alike stack common vars owned program from place now end p a (tries x m) = (refl, fit p a m)
end_try_alike stack common vars owned program from place now end p a (calls x m) = tt
end_try_alike stack common vars owned program from place now end p a (enters q x m) = tt

module _ (code : Code) (codes : List Code) (common vars below : List Datum) (owned : List Owned) (program : Program) (ms : List Mark) (ns : List FlatMark) (p : TreeStands code program.tree) (m : MarksFit (code ∷ codes) ms ns below) where
  local_alike : (q : Name) (b : Bool) (stack : List Datum) (place line : ℕ) (next : Block) (end : BlockEnd) → IsAt code.placed place line (Plain (Primitive q)) → Remains code.placed (place + 1) next end → EndsAlike (code ∷ codes) (cond b (machine.answered code (primitive q (scope_of (length code.words) (flat_at stack common owned below vars program (place + 1) ns)) stack) (flat_at stack common owned below vars program (place + 1) ns)) (asking q (flat_at stack common owned below vars program place ns))) (cond b (source_unit.primitive_answered (primitive q (source.scope_of (state_at stack common owned vars program next end ms)) stack) (state_at stack common owned vars program next end ms)) (asks q (state_at stack common owned vars program (word line (Primitive q) next) end ms)))
  local_alike q true stack place line next end i a =
      rw (scope_alike code codes common vars below owned program ms ns p m stack (place + 1) next end) (answered_alike code codes common vars below owned program ms ns p m (primitive q (source.scope_of (state_at stack common owned vars program next end ms)) stack) stack (place + 1) next end a)
  local_alike q false stack place line next end i a = (refl, fit p (i, a) m)

  word_alike : (w : Word) (stack : List Datum) (place line : ℕ) (next : Block) (end : BlockEnd) → IsAt code.placed place line (Plain w) → Remains code.placed (place + 1) next end → EndsAlike (code ∷ codes) (machine.word code w (place + 1) (flat_at stack common owned below vars program place ns)) (source_unit.word_unit w (state_at stack common owned vars program (word line w next) end ms) (state_at stack common owned vars program next end ms))
  word_alike (Literal l) stack place line next end i a =
      placing code codes common vars below owned program ms ns p m (constant l ∷ stack) stack (place + 1) next end a
  word_alike (Variable v) stack place line next end i a =
      placing code codes common vars below owned program ms ns p m (variable v.0 ∷ stack) stack (place + 1) next end a
  word_alike (Address w) stack place line next end i a =
      placing code codes common vars below owned program ms ns p m (address program.number w ∷ stack) stack (place + 1) next end a
  word_alike (Primitive q) stack place line next end i a = local_alike q (is_local q) stack place line next end i a
  word_alike (Call w) stack place line next end i a =
      call_alike code codes common vars below owned program ms ns p m w program.tree.words code.words p.words stack (place + 1) next end a
  word_alike (Bind n) stack place line next end i a = bound_alike code codes common vars below owned program ms ns p m n stack (place + 1) next end a
  word_alike (Store v) stack place line next end i a = keeping_alike code codes common vars below owned program ms ns p m v.0 stack (place + 1) next end a
  word_alike Exit stack place line next end i a = leave_word_alike stack common vars owned program (place + 1) next end ms ns p m
  word_alike Break stack place line next end i a = leave_loop_alike stack common vars owned program (place + 1) next end ms ns p m
  word_alike Continue stack place line next end i a = next_turn_alike stack common vars owned program (place + 1) next end ms ns p m
  word_alike While stack place line next end i a =
      test_alike code codes common vars below owned program ms ns p m stack (place + 1) next end _ _ _ _ (λ rest. (refl, fit p a m)) (λ rest. leave_loop_alike rest common vars owned program (place + 1) next end ms ns p m)
  word_alike NextIndex stack place line next end i a = index_alike stack common vars owned program (place + 1) next end p a m
  word_alike NextPair stack place line next end i a = pair_alike stack common vars owned program (place + 1) next end p a m

  -- the first part of a choice, which goes on after the choice
  hopping : (k : Fork) (x next : Block) (end : BlockEnd) (place to after mid : ℕ) → to ≤ after → Stands code.placed (place + 1) x (λ q. (q + 1 ≡ to) × IsAt code.placed q mid (hop_instr k after)) → Remains code.placed after next end → Remains code.placed (place + 1) x (hops k mid next end)
  hopping k x next end place to after mid l s r =
      stands_map code.placed x (place + 1) _ _ (λ q g. (after, g.1, (let e = g.0 in omega arith), r)) s

  -- the items of a turn
  round_of : (body : Block) (c : Closer) (last place to : ℕ) → Stands code.placed (place + 1) body (λ q. (q + 1 ≡ to) × IsAt code.placed q last (Close c)) → Remains code.placed (place + 1) body (closes c last)
  round_of body c last place to s = stands_map code.placed body (place + 1) _ _ (λ q g. g.1) s

  counting : (stack : List Datum) (place : ℕ) (next : Block) (end : BlockEnd) (body : Block) (c : Closer) (last after : ℕ) → Remains code.placed place body (closes c last) → Remains code.placed after next end → EndsAlike (code ∷ codes) (machine.open_for after (flat_at stack common owned below vars program place ns)) (source_unit.for_unit (state_at stack common owned vars program next end ms) body c last)
  counting stack place next end body c last after a b =
      rw (locked_alike m) (cond_alike (code ∷ codes) (nat_lt (length stack) (locked_of ms + 3)) _ _ _ _ (refused code codes common vars below owned program ms ns p m (too_few 3 stack) stack place next end) (for_alike code codes common vars below owned program ms ns p m stack place next end body c last after a b))

  keying : (stack : List Datum) (place : ℕ) (next : Block) (end : BlockEnd) (body : Block) (c : Closer) (last after : ℕ) → Remains code.placed place body (closes c last) → Remains code.placed after next end → EndsAlike (code ∷ codes) (machine.open_each after (flat_at stack common owned below vars program place ns)) (source_unit.each_unit (state_at stack common owned vars program next end ms) body c last)
  keying stack place next end body c last after a b =
      rw (locked_alike m) (cond_alike (code ∷ codes) (nat_lt (length stack) (locked_of ms + 1)) _ _ _ _ (refused code codes common vars below owned program ms ns p m (too_few 1 stack) stack place next end) (each_alike code codes common vars below owned program ms ns p m stack place next end body c last after a b))

  guarding : (stack : List Datum) (place : ℕ) (next : Block) (end : BlockEnd) (block : Block) (at : BlockEnd) (handler : Block) (to : ℕ) → Remains code.placed place block at → Remains code.placed to handler end → EndsAlike (code ∷ codes) (machine.open_try to (flat_at stack common owned below vars program place ns)) (source_unit.try_unit (state_at stack common owned vars program next end ms) block at handler)
  guarding stack place next end block at handler to a b =
      rw (locked_alike m) (cond_alike (code ∷ codes) (nat_lt (length stack) (locked_of ms + 1)) _ _ _ _ (refused code codes common vars below owned program ms ns p m (too_few 1 stack) stack place next end) (try_alike code codes common vars below owned program ms ns p m stack place next end block at handler to a b))

abbrev begin_target : Instr → ℕ
begin_target (Begin to) = to
begin_target _ = 0

-- the instruction that stands at a place; where there is none, the frame is stuck
abbrev fetched : Code → Option Placed → ℕ → Flat → Next
fetched code (Some q) next s = machine.instr code q.instr next s
fetched code None next s = stuck

module _ (code : Code) (codes : List Code) (common vars below : List Datum) (owned : List Owned) (program : Program) (ms : List Mark) (ns : List FlatMark) (p : TreeStands code program.tree) (m : MarksFit (code ∷ codes) ms ns below) where
  -- the instruction at the place does what the first item that remains does; BEGIN takes no unit
  lockstep : (now : Block) (end : BlockEnd) (stack : List Datum) (place : ℕ) → Remains code.placed place now end → ((line to : ℕ) → IsAt code.placed place line (Begin to) → ⊥) → EndsAlike (code ∷ codes) (fetched code (slice_get code.placed place) (place + 1) (flat_at stack common owned below vars program place ns)) (unit (state_at stack common owned vars program now end ms))
  lockstep stop (closes c line) stack place a nb = rw a (close_alike code codes common vars below owned program ms ns p m c stack place stop (closes c line))
  lockstep stop (hops if_word line next end) stack place a nb = rw a.1 (refl, fit p a.3 m)
  lockstep stop (hops try_word line next end) stack place a nb = rw a.1 (end_try_alike stack common vars owned program place a.0 next end p a.3 m)
  lockstep (word line w next) end stack place a nb = rw a.0 (word_alike code codes common vars below owned program ms ns p m w stack place line next end a.0 a.1)
  lockstep (when line x next) end stack place a nb =
      rw a.1 (test_alike code codes common vars below owned program ms ns p m stack (place + 1) next end _ _ _ _ (λ rest. (refl, fit p (joins code.placed x next (place + 1) a.0 _ a.3 a.4) m)) (λ rest. (refl, fit p a.4 m)))
  lockstep (fork if_word line x mid y next) end stack place a nb =
      rw a.2 (test_alike code codes common vars below owned program ms ns p m stack (place + 1) next end _ _ _ _ (λ rest. (refl, fit p (hopping code codes common vars below owned program ms ns p m if_word x next end place a.0 a.1 mid a.4 a.5 a.7) m)) (λ rest. (refl, fit p (joins code.placed y next a.0 a.1 _ a.6 a.7) m)))
  lockstep (fork try_word line x mid y next) end stack place a nb =
      rw a.2 (guarding code codes common vars below owned program ms ns p m stack (place + 1) next end x (hops try_word mid next end) (then_block y next) a.0 (hopping code codes common vars below owned program ms ns p m try_word x next end place a.0 a.1 mid a.4 a.5 a.7) (joins code.placed y next a.0 a.1 _ a.6 a.7))
  lockstep (ring begin_word line body c last next) end stack place a nb = absurd (nb line a.0 a.1)
  lockstep (ring for_word line body c last next) end stack place a nb =
      rw a.1 (counting code codes common vars below owned program ms ns p m stack (place + 1) next end body c last a.0 (round_of code codes common vars below owned program ms ns p m body c last place a.0 a.3) a.4)
  lockstep (ring each_word line body c last next) end stack place a nb =
      rw a.1 (keying code codes common vars below owned program ms ns p m stack (place + 1) next end body c last a.0 (round_of code codes common vars below owned program ms ns p m body c last place a.0 a.3) a.4)

  other : (P : Type 0) (i : Instr) (line w place to : ℕ) → (i ≡ Begin to → ⊥) → IsAt code.placed place w i → IsAt code.placed place line (Begin to) → P
  other P i line w place to differ h k =
      let e : Some (record { line = w; instr = i }) ≡ Some (record { line = line; instr = Begin to }) = sym h ∙ k in absurd (differ (ap (λ o. (placed_or o).instr) e))

  -- BEGIN passes into the loop
  begin_room : (now : Block) (end : BlockEnd) (stack : List Datum) (place line to : ℕ) → Remains code.placed place now end → IsAt code.placed place line (Begin to) → nat_lt (opened_by ns) open_most ≡ true → (t : Source) × FitsState (code ∷ codes) (flat_at stack common owned below vars program (place + 1) (loop plain (place + 1) to ∷ ns)) t × (unit (state_at stack common owned vars program now end ms) ≡ unit t)
  begin_room stop (closes c w) stack place line to a b room = other _ _ line _ place to (λ e. cc) a b
  begin_room stop (hops if_word w next end) stack place line to a b room = other _ _ line _ place to (λ e. cc) a.1 b
  begin_room stop (hops try_word w next end) stack place line to a b room = other _ _ line _ place to (λ e. cc) a.1 b
  begin_room (word w v next) end stack place line to a b room = other _ _ line _ place to (λ e. cc) a.0 b
  begin_room (when w x next) end stack place line to a b room = other _ _ line _ place to (λ e. cc) a.1 b
  begin_room (fork if_word w x mid y next) end stack place line to a b room = other _ _ line _ place to (λ e. cc) a.2 b
  begin_room (fork try_word w x mid y next) end stack place line to a b room = other _ _ line _ place to (λ e. cc) a.2 b
  begin_room (ring for_word w body c last next) end stack place line to a b room = other _ _ line _ place to (λ e. cc) a.1 b
  begin_room (ring each_word w body c last next) end stack place line to a b room = other _ _ line _ place to (λ e. cc) a.1 b
  begin_room (ring begin_word w body c last next) end stack place line to a b room =
      let e : Some (record { line = w; instr = Begin a.0 }) ≡ Some (record { line = line; instr = Begin to }) = sym a.1 ∙ b in
      let same : a.0 ≡ to = ap (λ o. begin_target (placed_or o).instr) e in
      let after : Remains code.placed to next end = subst (λ q. Remains code.placed q next end) same a.4 in
      let turn : Remains code.placed (place + 1) body (closes c last) = round_of code codes common vars below owned program ms ns p m body c last place a.0 a.3 in
      (state_at stack common owned vars program body (closes c last) (looping plain body c last next end ∷ ms), fit p turn (loops turn after m), rw (← open_alike m, room) refl)

  -- or there is no room for one more
  begin_full : (now : Block) (end : BlockEnd) (stack : List Datum) (place line to : ℕ) → Remains code.placed place now end → IsAt code.placed place line (Begin to) → nat_lt (opened_by ns) open_most ≡ false → EndsAlike (code ∷ codes) (machine.fault CallsFull (flat_at stack common owned below vars program place ns)) (unit (state_at stack common owned vars program now end ms))
  begin_full stop (closes c w) stack place line to a b room = other _ _ line _ place to (λ e. cc) a b
  begin_full stop (hops if_word w next end) stack place line to a b room = other _ _ line _ place to (λ e. cc) a.1 b
  begin_full stop (hops try_word w next end) stack place line to a b room = other _ _ line _ place to (λ e. cc) a.1 b
  begin_full (word w v next) end stack place line to a b room = other _ _ line _ place to (λ e. cc) a.0 b
  begin_full (when w x next) end stack place line to a b room = other _ _ line _ place to (λ e. cc) a.1 b
  begin_full (fork if_word w x mid y next) end stack place line to a b room = other _ _ line _ place to (λ e. cc) a.2 b
  begin_full (fork try_word w x mid y next) end stack place line to a b room = other _ _ line _ place to (λ e. cc) a.2 b
  begin_full (ring for_word w body c last next) end stack place line to a b room = other _ _ line _ place to (λ e. cc) a.1 b
  begin_full (ring each_word w body c last next) end stack place line to a b room = other _ _ line _ place to (λ e. cc) a.1 b
  begin_full (ring begin_word w body c last next) end stack place line to a b room =
      rw (← open_alike m, room) (refused code codes common vars below owned program ms ns p m CallsFull stack place (ring begin_word w body c last next) end)

  -- there is an instruction where items remain
  never_past : (now : Block) (end : BlockEnd) (place : ℕ) → Remains code.placed place now end → slice_get code.placed place ≡ None → ⊥
  never_past stop (closes c w) place a n = let e : Some (record { line = w; instr = Close c }) ≡ None = sym a ∙ n in cc
  never_past stop (hops k w next end) place a n = let e : Some (record { line = w; instr = hop_instr k a.0 }) ≡ None = sym a.1 ∙ n in cc
  never_past (word w v next) end place a n = let e : Some (record { line = w; instr = Plain v }) ≡ None = sym a.0 ∙ n in cc
  never_past (when w x next) end place a n = let e : Some (record { line = w; instr = When a.0 }) ≡ None = sym a.1 ∙ n in cc
  never_past (fork k w x mid y next) end place a n = let e : Some (record { line = w; instr = fork_instr k a.0 }) ≡ None = sym a.2 ∙ n in cc
  never_past (ring k w body c last next) end place a n = let e : Some (record { line = w; instr = ring_instr k a.0 }) ≡ None = sym a.1 ∙ n in cc

-- the same of frames and states
pub instr_fits : {code : Code} {codes : List Code} {f : Flat} {s : Source} → FitsState (code ∷ codes) f s → (q : Placed) → slice_get code.placed f.place ≡ Some q → ((to : ℕ) → q.instr ≡ Begin to → ⊥) → EndsAlike (code ∷ codes) (machine.instr code q.instr (f.place + 1) f) (unit s)
instr_fits {code} {codes} (fit {stack} {common} {vars} {below} {owned} {place} {program} {now} {end} {ms} {ns} p a m) q e nb =
    let whole : EndsAlike (code ∷ codes) (fetched code (slice_get code.placed place) (place + 1) (flat_at stack common owned below vars program place ns)) (unit (state_at stack common owned vars program now end ms)) = lockstep code codes common vars below owned program ms ns p m now end stack place a (λ line to h. (let g : Some q ≡ Some (record { line = line; instr = Begin to }) = sym e ∙ h in nb to (ap (λ o. (placed_or o).instr) g))) in
    rw e at whole

pub place_fits : {code : Code} {codes : List Code} {f : Flat} {s : Source} → FitsState (code ∷ codes) f s → slice_get code.placed f.place ≡ None → ⊥
place_fits {code} {codes} (fit {common} {vars} {below} {owned} {place} {program} {now} {end} {ms} {ns} p a m) e =
    never_past code codes common vars below owned program ms ns p m now end place a e

pub room_fits : {code : Code} {codes : List Code} {f : Flat} {s : Source} → FitsState (code ∷ codes) f s → (line to : ℕ) → IsAt code.placed f.place line (Begin to) → opened_by f.marks < 512 → (t : Source) × FitsState (code ∷ codes) (record f { place = f.place + 1; marks = loop plain (f.place + 1) to ∷ f.marks }) t × (unit s ≡ unit t)
room_fits {code} {codes} (fit {stack} {common} {vars} {below} {owned} {place} {program} {now} {end} {ms} {ns} p a m) line to e h =
    begin_room code codes common vars below owned program ms ns p m now end stack place line to a e (lt-ltb _ _ h)

pub full_fits : {code : Code} {codes : List Code} {f : Flat} {s : Source} → FitsState (code ∷ codes) f s → (line to : ℕ) → IsAt code.placed f.place line (Begin to) → 512 ≤ opened_by f.marks → EndsAlike (code ∷ codes) (machine.fault CallsFull f) (unit s)
full_fits {code} {codes} (fit {stack} {common} {vars} {below} {owned} {place} {program} {now} {end} {ms} {ns} p a m) line to e h =
    begin_full code codes common vars below owned program ms ns p m now end stack place line to a e (le-ltb _ _ h)

-- a fault is caught alike
pub fault_fits : {code : Code} {codes : List Code} {f : Flat} {s : Source} → FitsState (code ∷ codes) f s → (g : MufFault) → EndsAlike (code ∷ codes) (machine.fault g f) (source_unit.fault_met g s)
fault_fits {code} {codes} (fit {stack} {common} {vars} {below} {owned} {place} {program} {now} {end} {ms} {ns} p a m) g =
    refused code codes common vars below owned program ms ns p m g stack place now end

-- and as much is locked, and as many calls run
pub locked_fits : {codes : List Code} {f : Flat} {s : Source} → FitsState codes f s → locked_by f.marks ≡ locked_of s.marks
locked_fits (fit p a m) = locked_alike m

pub calls_fits : {codes : List Code} {f : Flat} {s : Source} → FitsState codes f s → calls_by f.marks ≡ calls_running s.marks
calls_fits (fit p a m) = calls_alike m
