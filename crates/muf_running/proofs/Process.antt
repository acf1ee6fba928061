-- What a frame and the codes of its programs stand for after each step.
use Rattle.std.proofs.Common.{◌≡◌, ℕ, zero, suc, ◌+◌, ◌<◌, List, [], ◌∷◌, ◌++◌, length, drop, map, reverse, Option, Some, None, cond, refl, sym, ap, subst, ◌∙◌, arith}
use Rattle.std.specs.Prelude.{ℤ, slice_get, slice_set, is_some, true, ◌||◌}
use Rattle.std.specs.Ordering.{int_eq}
use Rattle.std.specs.List.{list_any}
use Rattle.std.specs.Option.{option_map}
use Rattle.std.proofs.lemmas.List.{drop-map}
use Rattle.std.proofs.lemmas.List.Sorted.{IsPermutation-reverse, list_any-IsPermutation}
use Rattle.std.proofs.lemmas.Bool.{lt-ltb}
use Rattle.std.proofs.lemmas.Option.{slice_get-map, slice_get_within, slice_get-get_or}
use Rattle.muck_model.specs.declared.dbref.Dbref.{Dbref}
use Rattle.muf_model.specs.declared.code.Code.{Code}
use Rattle.muf_model.specs.declared.code.CodeWord.{CodeWord}
use Rattle.muf_model.specs.declared.code.Placed.{Placed}
use Rattle.muf_model.specs.declared.fault.MufFault.{MufFault}
use Rattle.muf_model.specs.Answer.{stack_most, variable_at}
use Rattle.muf_model.specs.Chains.{programs_of, Keeps}
use Rattle.muf_model.specs.Datum.{Datum, mark}
use Rattle.muf_model.specs.inner.Decode.{tree_of, definition_at, placed_or}
use Rattle.muf_model.specs.inner.Fits.{MarksFit, none, enters, FitsState, fit}
use Rattle.muf_model.specs.inner.Flat.{FlatMark, Flat, decode, first_code}
use Rattle.muf_model.specs.Source.{Program, Mark, Owned, Source, handed, item_passed, passed_at, program_entered, started, last_word}
use Rattle.muf_model.specs.inner.Stands.{Remains, TreeStands, WordStands, WordsStand}
use Rattle.muf_model.specs.Tree.{Block, stop, word, when, fork, ring, BlockEnd}
use Rattle.muf_model.specs.inner.Nesting.{outside, NestedBlock, NestedWords}
use Rattle.muf_model.specs.inner.Nested.{Nested, StaysNested}
use Rattle.muf_model.specs.Unit.{Outcome, goes, ended, faulted, asks, stuck, units, fault_met}
use Rattle.muf_model.proofs.Chains.{units_keep, fault_keeps}
use Rattle.muf_model.proofs.Nesting.{fault_nested, entered_nested, started_nested, passed_nested}
use Rattle.muf_model.proofs.Decoded.{decoded, fits}
use Rattle.muf_compile.specs.Lines.{next_line}
use Rattle.muf_compile.proofs.SameLine.{same_line}
use Rattle.muf_frame.specs.inner.Shown.{Shown, flat}
use Rattle.muf_frame.specs.inner.Moves as moves
use Rattle.muf_frame.specs.inner.Moves.{caught}
use Rattle.muf_run.specs.inner.Alike.{EndsAlike}
use Rattle.muf_run.specs.inner.Machine.{after_fault}
use Rattle.muf_run.specs.inner.Runs.{RunsAlike}
use Rattle.muf_run.specs.declared.run.Local.{Local}
use Rattle.muf_run.specs.declared.run.Local.TheVariants as local
use Rattle.muf_run.proofs.Lockstep.{fault_fits, locked_fits, calls_fits}
use Rattle.muf_running.specs.declared.entered.Entered.{Entered}
use Rattle.muf_running.specs.declared.begin.Start.{Start}
use Rattle.muf_running.specs.Begins.{StartsIn, StartsAt}
use Rattle.muf_running.specs.inner.Fitting.{codes_of, numbers_of, numbers_in, number_among, program_with, ProgramsFit, IsAtPrimitive}
use Rattle.muf_running.specs.declared.stint.Ran.{Ran}
use Rattle.muf_running.specs.declared.stint.Ran.TheVariants.{Going, Asking, Ended, Faulted}
use Rattle.muf_running.specs.inner.Stints.{RanAlike, AskedAt, LeftAt, LocalFits}
use Rattle.muf_running.specs.inner.Lending.{Shows, Apart, Differs, with_frame}

-- there is a running program
pub first_there : {cs : List Code} {f : Flat} {s : Source} → FitsState cs f s → cs ≡ first_code cs ∷ drop 1 cs
first_there (fit p a m) = refl

no_codes : {f : Flat} {s : Source} → FitsState [] f s → ⊥
no_codes h = let e : [] ≡ first_code [] ∷ drop 1 [] = first_there h in cc

-- a process that left k of its programs
pub left_at : (k : ℕ) (es : List Entered) (f g : Flat) (t : Source) → ProgramsFit es f → FitsState (drop k (codes_of es)) g t → Nested t → programs_of t ≡ drop k (programs_of (decode (codes_of es) f)) → LeftAt k es g t
left_at k es f g t h fitting nested kept =
    let codes : drop k (codes_of es) ≡ codes_of (drop k es) = drop-map _ k es in
    let fitted : FitsState (codes_of (drop k es)) g t = subst (λ cs. FitsState cs g t) codes fitting in
    let numbers : numbers_of (drop k es) ≡ numbers_in t =
    sym (drop-map (λ e. e.program.0) k es) ∙ ap (drop k) h.1 ∙ drop-map (λ p. p.number) k (programs_of (decode (codes_of es) f)) ∙ ap (map (λ p. p.number)) (sym kept) in
    ((fits fitted nested, numbers ∙ ap numbers_in (sym (decoded fitted))), decoded fitted)

-- a process in the same programs
pub same_programs : (es : List Entered) (f g : Flat) (t : Source) → ProgramsFit es f → FitsState (codes_of es) g t → Nested t → programs_of t ≡ programs_of (decode (codes_of es) f) → ProgramsFit es g × (decode (codes_of es) g ≡ t)
same_programs es f g t h fitting nested kept = left_at 0 es f g t h fitting nested kept

-- what a run in one program leaves
local_at : (es : List Entered) (f g : Flat) (l : Local) (o : Outcome) → ProgramsFit es f → Keeps (programs_of (decode (codes_of es) f)) o → RunsAlike (codes_of es) l g o → LocalFits es l g o
local_at es f g local.Spent (goes zero s) h k r = left_at 0 es f g s h (subst (FitsState (codes_of es) g) r.1 r.0.state) (subst Nested r.1 r.0.nested) k
local_at es f g local.Spent (goes (suc j) s) h k r = absurd r
local_at es f g local.Spent ended h k r = absurd r
local_at es f g local.Spent (faulted e) h k r = absurd r
local_at es f g local.Spent (asks p s) h k r = absurd r
local_at es f g local.Spent stuck h k r = absurd r
local_at es f g (local.Returned i) (goes zero s) h k r = absurd r
local_at es f g (local.Returned i) (goes (suc j) s) h k r =
    (r.0, left_at (suc j) es f g s h (subst (FitsState (drop (suc j) (codes_of es)) g) r.2 r.1.state) (subst Nested r.2 r.1.nested) k)
local_at es f g (local.Returned i) ended h k r = absurd r
local_at es f g (local.Returned i) (faulted e) h k r = absurd r
local_at es f g (local.Returned i) (asks p s) h k r = absurd r
local_at es f g (local.Returned i) stuck h k r = absurd r
local_at es f g (local.Shared q) (goes j s) h k r = absurd r
local_at es f g (local.Shared q) ended h k r = absurd r
local_at es f g (local.Shared q) (faulted e) h k r = absurd r
local_at es f g (local.Shared q) (asks p s) h k r = (r.0, left_at 0 es f g s h (subst (FitsState (codes_of es) g) r.2 r.1.state) (subst Nested r.2 r.1.nested) k.0)
local_at es f g (local.Shared q) stuck h k r = absurd r
local_at es f g local.Ended (goes j s) h k r = absurd r
local_at es f g local.Ended ended h k r = tt
local_at es f g local.Ended (faulted e) h k r = absurd r
local_at es f g local.Ended (asks p s) h k r = absurd r
local_at es f g local.Ended stuck h k r = absurd r
local_at es f g (local.Faulted d) (goes j s) h k r = absurd r
local_at es f g (local.Faulted d) ended h k r = absurd r
local_at es f g (local.Faulted d) (faulted e) h k r = r
local_at es f g (local.Faulted d) (asks p s) h k r = absurd r
local_at es f g (local.Faulted d) stuck h k r = absurd r

pub run_at : (es : List Entered) (f g : Flat) (l : Local) (m : ℕ) → ProgramsFit es f → RunsAlike (codes_of es) l g (units m (decode (codes_of es) f)) → LocalFits es l g (units m (decode (codes_of es) f))
run_at es f g l m h r =
    local_at es f g l (units m (decode (codes_of es) f)) h (units_keep m (decode (codes_of es) f)) r

-- what a fault leaves
caught_at : (es : List Entered) (f g : Flat) (k : ℕ) (o : Outcome) → ProgramsFit es f → Keeps (programs_of (decode (codes_of es) f)) o → StaysNested o → (e : MufFault) → EndsAlike (codes_of es) (after_fault e (Some (k, g))) o → (t : Source) × LeftAt k es g t × (o ≡ goes k t)
caught_at es f g k (goes j t) h kept n e r =
    let same : j ≡ k = sym r.0 in
    (t, left_at k es f g t h (subst (λ i. FitsState (drop i (codes_of es)) g t) same r.1) n (kept ∙ ap (λ i. drop i (programs_of (decode (codes_of es) f))) same), ap (λ i. goes i t) same)
caught_at es f g k ended h kept n e r = absurd r
caught_at es f g k (faulted d) h kept n e r = absurd r
caught_at es f g k (asks p t) h kept n e r = absurd r
caught_at es f g k stuck h kept n e r = absurd n

uncaught_at : (cs : List Code) (e : MufFault) (o : Outcome) → EndsAlike cs (after_fault e None) o → o ≡ faulted e
uncaught_at cs e (goes j t) r = absurd r
uncaught_at cs e ended r = absurd r
uncaught_at cs e (faulted d) r = ap faulted (sym r)
uncaught_at cs e (asks p t) r = absurd r
uncaught_at cs e stuck r = absurd r

faults_alike : (cs : List Code) (f : Flat) (s : Source) (e : MufFault) → FitsState cs f s → EndsAlike cs (after_fault e (caught e f)) (fault_met e s)
faults_alike (c ∷ cs) f s e h = fault_fits h e
faults_alike [] f s e h = absurd (no_codes h)

pub raised_some : (es : List Entered) (f g : Flat) (e : MufFault) (k : ℕ) → ProgramsFit es f → caught e f ≡ Some (k, g) → (t : Source) × LeftAt k es g t × (fault_met e (decode (codes_of es) f) ≡ goes k t)
raised_some es f g e k h c =
    let s : Source = decode (codes_of es) f in
    caught_at es f g k (fault_met e s) h (fault_keeps e s) (fault_nested e s h.0.nested) e (subst (λ x. EndsAlike (codes_of es) (after_fault e x) (fault_met e s)) c (faults_alike (codes_of es) f s e h.0.state))

pub raised_none : (es : List Entered) (f : Flat) (e : MufFault) → ProgramsFit es f → caught e f ≡ None → fault_met e (decode (codes_of es) f) ≡ faulted e
raised_none es f e h c =
    let s : Source = decode (codes_of es) f in
    uncaught_at (codes_of es) e (fault_met e s) (subst (λ x. EndsAlike (codes_of es) (after_fault e x) (fault_met e s)) c (faults_alike (codes_of es) f s e h.0.state))

-- the place behind a primitive
passing : (code : Code) (codes : List Code) (stack common vars below : List Datum) (owned : List Owned) (place : ℕ) (program : Program) (now : Block) (end : BlockEnd) (ms : List Mark) (ns : List FlatMark) → IsAtPrimitive now → TreeStands code program.tree → Remains code.placed place now end → MarksFit (code ∷ codes) ms ns below → FitsState (code ∷ codes) (record { stack = stack; common = common; owned = owned; variables = below ++ vars; base = length below; program = program.number; place = place + 1; marks = ns }) (item_passed (record { stack = stack; common = common; owned = owned; variables = vars; program = program; now = now; end = end; marks = ms })) × (place < length code.placed)
passing code codes stack common vars below owned place program (word line w next) end ms ns h p a m =
    (fit p a.1 m, slice_get_within code.placed place _ a.0)
passing code codes stack common vars below owned place program stop end ms ns h p a m = absurd h
passing code codes stack common vars below owned place program (when line b next) end ms ns h p a m = absurd h
passing code codes stack common vars below owned place program (fork k line b mid c next) end ms ns h p a m = absurd h
passing code codes stack common vars below owned place program (ring k line b c last next) end ms ns h p a m = absurd h

pub passed_fits : {cs : List Code} {f : Flat} {s : Source} → FitsState cs f s → IsAtPrimitive s.now → FitsState cs (record f { place = f.place + 1 }) (item_passed s) × (f.place < length (first_code cs).placed)
passed_fits (fit {code} {codes} {stack} {common} {vars} {below} {owned} {place} {program} {now} {end} {ms} {ns} p a m) h =
    passing code codes stack common vars below owned place program now end ms ns h p a m

abbrev option_or : CodeWord → Option CodeWord → CodeWord
option_or v None = v
option_or v (Some w) = w

-- a word of the code stands for the definition that is read at it
word_at : (code : List Placed) (ws : List CodeWord) (n : ℕ) (w : CodeWord) → WordsStand code ws (map (definition_at code) ws) → slice_get ws n ≡ Some w → WordStands code w (definition_at code w)
word_at code [] n w h e = cc
word_at code (v ∷ ws) zero w h e =
    let same : v ≡ w = ap (λ o. option_or v o) e in subst (λ x. WordStands code x (definition_at code x)) same h.0
word_at code (v ∷ ws) (suc n) w h e = word_at code ws n w h.1 e

-- and that is nested
word_nested : (code : List Placed) (ws : List CodeWord) (n : ℕ) (w : CodeWord) → NestedWords (map (definition_at code) ws) → slice_get ws n ≡ Some w → NestedBlock outside (definition_at code w).body
word_nested code [] n w h e = absurd cc
word_nested code (v ∷ ws) zero w h e =
    let same : v ≡ w = ap (λ o. option_or v o) e in subst (λ x. NestedBlock outside (definition_at code x).body) same h.0
word_nested code (v ∷ ws) (suc n) w h e = word_nested code ws n w h.1 e

-- a word of a program is called
pub entered_fits : {cs : List Code} {f : Flat} {s : Source} → FitsState cs f s → (d : Dbref) (code : Code) (n : ℕ) (w : CodeWord) → TreeStands code (tree_of code) → slice_get code.words n ≡ Some w → FitsState (code ∷ cs) (moves.entered d.0 code.variables w.start w.variables f) (program_entered (program_with d code) (definition_at code.placed w) s)
entered_fits (fit p a m) d code n w h e = fit h (word_at code.placed code.words n w h.words e).body (enters p a m)

pub entered_programs : (es : List Entered) (f g : Flat) (e : Entered) (s : Source) → ProgramsFit es f → FitsState (codes_of (e ∷ es)) g s → Nested s → numbers_in s ≡ e.program.0 ∷ numbers_in (decode (codes_of es) f) → ProgramsFit (e ∷ es) g × (decode (codes_of (e ∷ es)) g ≡ s)
entered_programs es f g e s h fitting nested numbers =
    ((fits fitting nested, ap (λ ns. e.program.0 ∷ ns) h.1 ∙ sym numbers ∙ ap numbers_in (sym (decoded fitting))), decoded fitting)

-- a process begins in a word
pub begun_fits : (d : Dbref) (code : Code) (common : List Datum) (argument : List ℕ) (n : ℕ) (w : CodeWord) → TreeStands code (tree_of code) → slice_get code.words n ≡ Some w → FitsState (code ∷ []) (moves.begun d.0 w.start w.variables (moves.owning d.0 code.variables (record (moves.fresh argument) { common = common }))) (started (program_with d code) (definition_at code.placed w) common argument)
begun_fits d code common argument n w h e = fit h (word_at code.placed code.words n w h.words e).body none

-- the last one is at its place
pub last_read : (code : List Placed) (ws : List CodeWord) (n : ℕ) → length ws ≡ suc n → last_word (map (definition_at code) ws) ≡ option_map (definition_at code) (slice_get ws n)
last_read code [] n e = absurd (omega (arith, e))
last_read code (w ∷ []) zero e = refl
last_read code (w ∷ []) (suc n) e = absurd (omega (arith, e))
last_read code (w ∷ v ∷ ws) zero e = absurd (omega (arith, e))
last_read code (w ∷ v ∷ ws) (suc n) e = last_read code (v ∷ ws) n (omega (arith, e))

starts_in : (o : Option CodeWord) (start : Start) → StartsIn o start → (w : CodeWord) × (o ≡ Some w) × (start.place ≡ w.start) × (start.variables ≡ w.variables)
starts_in None start h = absurd h
starts_in (Some w) start h = (w, refl, h.0, h.1)

-- the process once a word of a program is called
pub call_at : (es : List Entered) (f g : Flat) (d : Dbref) (code : Code) (n : ℕ) (start : Start) → ProgramsFit es f → TreeStands code (tree_of code) → StartsAt code n start → g ≡ moves.entered d.0 start.owned start.place start.variables f → ProgramsFit (record { program = d; code = code } ∷ es) g × (option_map (λ w. program_entered (program_with d code) w (decode (codes_of es) f)) (slice_get (tree_of code).words n) ≡ Some (decode (codes_of (record { program = d; code = code } ∷ es)) g))
call_at es f g d code n start h stands at same =
    let w = starts_in (slice_get code.words n) start at.0 in
    let s : Source = decode (codes_of es) f in
    let next : Source = program_entered (program_with d code) (definition_at code.placed w.0) s in
    let frame : moves.entered d.0 code.variables w.0.start w.0.variables f ≡ g = rw (← at.1, ← w.2, ← w.3) (sym same) in
    let fitting : FitsState (code ∷ codes_of es) g next = subst (λ x. FitsState (code ∷ codes_of es) x next) frame (entered_fits h.0.state d code n w.0 stands w.1) in
    let r = entered_programs es f g (record { program = d; code = code }) next h fitting (entered_nested (program_with d code) (definition_at code.placed w.0) s stands.nested (word_nested code.placed code.words n w.0 stands.nested w.1) h.0.nested) refl in
    let found : slice_get (tree_of code).words n ≡ Some (definition_at code.placed w.0) = slice_get-map (definition_at code.placed) code.words n ∙ ap (option_map (definition_at code.placed)) w.1 in
    (r.0, ap (option_map (λ x. program_entered (program_with d code) x s)) found ∙ ap Some (sym r.1))

-- the process at the beginning of a program's last word
pub begin_at : (f g : Flat) (d : Dbref) (code : Code) (common : List Datum) (argument : List ℕ) (n : ℕ) (start : Start) → length code.words ≡ suc n → TreeStands code (tree_of code) → StartsAt code n start → f ≡ record (moves.fresh argument) { common = common } → g ≡ moves.begun d.0 start.place start.variables (moves.owning d.0 start.owned f) → ProgramsFit (record { program = d; code = code } ∷ []) g × (Some (decode (codes_of (record { program = d; code = code } ∷ [])) g) ≡ option_map (λ w. started (program_with d code) w common argument) (last_word (tree_of code).words))
begin_at f g d code common argument n start count stands at first same =
    let w = starts_in (slice_get code.words n) start at.0 in
    let next : Source = started (program_with d code) (definition_at code.placed w.0) common argument in
    let from : Flat = record (moves.fresh argument) { common = common } in
    let frame : moves.begun d.0 w.0.start w.0.variables (moves.owning d.0 code.variables from) ≡ g =
    ap (λ x. moves.begun d.0 x w.0.variables (moves.owning d.0 code.variables from)) (sym w.2) ∙ ap (λ x. moves.begun d.0 start.place x (moves.owning d.0 code.variables from)) (sym w.3) ∙ ap (λ x. moves.begun d.0 start.place start.variables (moves.owning d.0 x from)) (sym at.1) ∙ ap (λ x. moves.begun d.0 start.place start.variables (moves.owning d.0 start.owned x)) (sym first) ∙ sym same in
    let fitting : FitsState (code ∷ []) g next = subst (λ x. FitsState (code ∷ []) x next) frame (begun_fits d code common argument n w.0 stands w.1) in
    let found : last_word (tree_of code).words ≡ Some (definition_at code.placed w.0) = last_read code.placed code.words n count ∙ ap (option_map (definition_at code.placed)) w.1 in
    ((fits fitting (started_nested (program_with d code) (definition_at code.placed w.0) common argument stands.nested (word_nested code.placed code.words n w.0 stands.nested w.1)), ap numbers_in (sym (decoded fitting))), ap Some (decoded fitting) ∙ sym (ap (option_map (λ x. started (program_with d code) x common argument)) found))

-- another stack, and other variables of the process and of its programs
lent_fits : (g : Flat) {cs : List Code} {f : Flat} {s : Source} → FitsState cs f s → FitsState cs (record f { stack = g.stack; common = g.common; owned = g.owned }) (with_frame g s)
lent_fits g (fit p a m) = fit p a m

lent_nested : (g : Flat) (s : Source) → Nested s → Nested (with_frame g s)
lent_nested g s h = record { now = h.now; end = h.end; marks = h.marks; tree = h.tree }

pub lent_at : (es : List Entered) (f g : Flat) (s : Source) → Apart es f s → Differs f g → Apart es g (with_frame g s)
lent_at es f g s h differs =
    let t : Source = decode (codes_of es) f in
    let fitted : FitsState (codes_of es) g (with_frame g t) = subst (λ x. FitsState (codes_of es) x (with_frame g t)) (sym differs) (lent_fits g h.0.0.state) in
    subst (λ x. Apart es g (with_frame g x)) h.1 (same_programs es f g (with_frame g t) h.0 fitted (lent_nested g t h.0.0.nested) refl)

-- an item more, where there is room
pub handed_at : (es : List Entered) (f g : Flat) (x : Datum) → ProgramsFit es f → length f.stack < stack_most → g ≡ record f { stack = x ∷ f.stack } → ProgramsFit es g × (decode (codes_of es) g ≡ handed x (decode (codes_of es) f))
handed_at es f g x h room e =
    let s : Source = decode (codes_of es) f in
    let given : Flat = record f { stack = x ∷ f.stack } in
    let more : handed x s ≡ with_frame given s = ap (λ b. record s { stack = cond b (x ∷ s.stack) s.stack }) (lt-ltb (length s.stack) stack_most room) in
    let at : Apart es given (with_frame given s) = lent_at es f given s (h, refl) refl in
    subst (λ k. ProgramsFit es k × (decode (codes_of es) k ≡ handed x s)) (sym e) (at.0, at.1 ∙ sym more)

-- what the frame shows
pub shows_at : (es : List Entered) (f : Flat) (s : Source) → Apart es f s → Shows f s
shows_at es f s h = subst (Shows f) h.1 (record {
  stack = refl;
  locked = locked_fits h.0.0.state;
  calls = calls_fits h.0.0.state;
  program = refl;
  common = refl;
  owned = refl;
  variables = refl;
})

-- the line of what comes next is that of the instruction at the place
pub line_at : (cs : List Code) (f : Flat) (s : Source) (o : Option Placed) → decode cs f ≡ s → slice_get (first_code cs).placed f.place ≡ o → (placed_or o).line ≡ next_line s.now s.end
line_at cs f s o at e =
    ap (λ x. (placed_or x).line) (sym e) ∙ sym (same_line (first_code cs).placed f.place) ∙ ap (λ x. next_line x.now x.end) at

-- the process once a primitive is passed
passed_programs : (now : Block) (s : Source) → IsAtPrimitive now → programs_of (passed_at now s) ≡ programs_of s
passed_programs (word line w next) s h = refl
passed_programs stop s h = refl
passed_programs (when line b next) s h = refl
passed_programs (fork k line b mid c next) s h = refl
passed_programs (ring k line b c last next) s h = refl

pub passed_place : (es : List Entered) (f : Shown) → ProgramsFit es (flat f) → IsAtPrimitive (decode (codes_of es) (flat f)).now → f.place < length (first_code (codes_of es)).placed
passed_place es f h at = (passed_fits h.0.state at).1

pub passed_at_end : (es : List Entered) (f g : Shown) → ProgramsFit es (flat f) → IsAtPrimitive (decode (codes_of es) (flat f)).now → g ≡ record f { place = f.place + 1 } → ProgramsFit es (flat g) × (decode (codes_of es) (flat g) ≡ item_passed (decode (codes_of es) (flat f)))
passed_at_end es f g h at same =
    let s : Source = decode (codes_of es) (flat f) in
    let frame : record (flat f) { place = f.place + 1 } ≡ flat g = ap flat (sym same) in
    same_programs es (flat f) (flat g) (item_passed s) h (subst (λ x. FitsState (codes_of es) x (item_passed s)) frame (passed_fits h.0.state at).0) (passed_nested s h.0.nested) (passed_programs s.now s at)

-- a number among those of a call stack, in either order
any_number : (k : ℤ) (es : List Entered) → list_any (λ e. int_eq e.program.0 k) es ≡ number_among k (numbers_of es)
any_number k [] = refl
any_number k (e ∷ es) = ap (λ b. int_eq e.program.0 k || b) (any_number k es)

pub runs_at : (k : ℤ) (es : List Entered) → list_any (λ e. int_eq e.program.0 k) es ≡ number_among k (numbers_of (reverse es))
runs_at k es =
    list_any-IsPermutation (λ e. int_eq e.program.0 k) es (reverse es) (IsPermutation-reverse es) ∙ any_number k (reverse es)

-- a variable of the process is there
pub common_there : (v : ℕ) (f : Flat) → v < 4 → length f.common ≡ 4 → is_some (variable_at v (moves.scope_of 0 f)) ≡ true
common_there v f l n =
    let m : v < length f.common = omega (arith, l, n) in
    rw (lt-ltb v 4 l, slice_get-get_or f.common v mark m) refl

pub common_set : (v : ℕ) (x : Datum) (f : Flat) → v < 4 → moves.with_variable v x f ≡ record f { common = slice_set f.common v x }
common_set v x f l = rw (lt-ltb v 4 l) refl

-- a process that asks stands at the primitive
asked_at : (ps : List Program) (ran : Ran) (o : Outcome) → Keeps ps o → RanAlike ran o → AskedAt ran
asked_at ps (Going r) o k h = tt
asked_at ps (Asking p r) (goes j s) k h = absurd h
asked_at ps (Asking p r) ended k h = absurd h
asked_at ps (Asking p r) (faulted f) k h = absurd h
asked_at ps (Asking p r) stuck k h = absurd h
asked_at ps (Asking p r) (asks q s) k h = rw (h.0, h.1) k.1
asked_at ps Ended o k h = tt
asked_at ps (Faulted f) o k h = tt

pub ran_asked : (m : ℕ) (s : Source) (ran : Ran) → RanAlike ran (units m s) → AskedAt ran
ran_asked m s ran h = asked_at (programs_of s) ran (units m s) (units_keep m s) h
