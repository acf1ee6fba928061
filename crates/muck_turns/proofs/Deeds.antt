-- What shared primitives do to a process.
use Rattle.std.proofs.Common.{◌≡◌, ℕ, suc, ◌+◌, ◌-◌, ◌<◌, ◌≤◌, subst, cond, List, [], ◌∷◌, map, drop, length, Bool, true, false, Option, Some, None, refl, sym, ap, ◌∙◌, arith, ◌&&◌}
use Rattle.std.specs.Prelude.{slice_get, find, Result, Ok, Err}
use Rattle.std.specs.List.{position, position_from}
use Rattle.std.specs.Option.{SomeIff}
use Rattle.std.proofs.lemmas.List.{length-map}
use Rattle.std.proofs.lemmas.Iterator.Adapters.{position_from-zero}
use Rattle.muck_laws.proofs.Mapped.{map_drop}
use Rattle.muck_model.specs.declared.dbref.Dbref.{Dbref}
use Rattle.muf_model.specs.declared.prims.Primitive.{Primitive as Name}
use Rattle.muf_model.specs.Prims.{family_of}
use Rattle.muf_model.specs.inner.View.{view}
use Rattle.muf_model.specs.Datum.{Datum}
use Rattle.muf_model.specs.declared.fault.MufFault.{MufFault}
use Rattle.muf_model.specs.inner.Flat.{Flat}
use Rattle.muf_model.specs.Source.{Owned, Program, Source, last_word, locked_of, item_passed}
use Rattle.muf_model.specs.Chains.{callers_of}
use Rattle.muf_model.specs.declared.code.Code.{Code}
use Rattle.muf_model.specs.declared.code.CodeWord.{CodeWord}
use Rattle.muf_model.specs.inner.Decode.{definition_at, tree_of}
use Rattle.muf_model.specs.Tree.{Definition}
use Rattle.std.specs.Str.{bytes_eq}
use Rattle.std.specs.Char.{to_ascii_lowercase}
use Rattle.spec_rights.specs.declared.act.Actor.{Actor}
use Rattle.spec_events.specs.declared.starting.Agent.{Agent}
use Rattle.spec_events.specs.World.{World}
use Rattle.spec_prims.specs.Asking.{object_numbered}
use Rattle.spec_prims.specs.Row.{WorldAnswer, gives, refuses, breaks, WorldDoing as RowDoing}
use Rattle.spec_prims.specs.Shared.{doing_in, primitive_done, shared}
use Rattle.spec_live.specs.Lives.{Live}
use Rattle.muf_model.specs.declared.prims.Family.{Family}
use Rattle.muf_model.specs.declared.prims.Family.TheVariants.{Object as ObjectFamily, Property, Talk}
use Rattle.muf_model.specs.declared.fault.MufFault.TheVariants.{NotCompiled}
use Rattle.muf_frame.specs.declared.fault.PrimFault.{PrimFault}
use Rattle.muf_frame.specs.declared.fault.PrimFault.TheVariants.{Fault as FrameFault}
use Rattle.muf_frame.specs.inner.Shown.{Shown, flat, locked_by}
use Rattle.muf_running.specs.declared.entered.Entered.{Entered}
use Rattle.muf_running.specs.inner.Fitting.{IsAtPrimitive}
use Rattle.muf_running.specs.inner.Lending.{Shows, Apart, Differs, Rejoins, with_frame}
use Rattle.spec_events.specs.Slices.{does, fails, callers, lifted, row_done, called_word, is_offered, state_behind, acting}
use Rattle.muck_turns.specs.declared.state.deeds.Done.TheVariants.{Fails as DoneFails}
use Rattle.muck_turns.specs.inner.Deeds.{AppliedTo, DoneAs, IsWord, PassesOn}

-- programs of these numbers
numbered_so : (ds : List Dbref) (ps : List Program) → map (λ d. d.0) ds ≡ map (λ p. p.number) ps → ds ≡ map (λ p. object_numbered p.number) ps
numbered_so [] [] e = refl
numbered_so [] (p ∷ ps) e = absurd cc
numbered_so (d ∷ ds) [] e = absurd cc
numbered_so (d ∷ ds) (p ∷ ps) e =
    let head : d.0 ≡ p.number = cc in
    let tail : map (λ d. d.0) ds ≡ map (λ p. p.number) ps = cc in
    ap (λ n. object_numbered n ∷ ds) head ∙ ap (λ xs. object_numbered p.number ∷ xs) (numbered_so ds ps tail)

pub callers_numbered : (ds : List Dbref) (s : Source) → map (λ d. d.0) ds ≡ map (λ p. p.number) (callers_of s.marks) → ds ≡ callers s
callers_numbered ds s e = numbered_so ds (callers_of s.marks) e

-- ---- the word that is called

-- the word of this number, from i on, is that one
abbrev IsWordFrom : ℕ → List Definition → Option Definition → Option ℕ → Type 0
IsWordFrom i ds d None = d ≡ None
IsWordFrom i ds d (Some n) = (k : ℕ) × (n ≡ i + k) × (k < length ds) × (d ≡ slice_get ds k)

word_by : (b : Bool) (i : ℕ) (d : Definition) (ds : List Definition) (o : Option Definition) (r : Option ℕ) → IsWordFrom (i + 1) ds o r → IsWordFrom i (d ∷ ds) (cond b (Some d) o) (cond b (Some i) r)
word_by true i d ds o r h = (0, omega arith, omega arith, refl)
word_by false i d ds o None h = h
word_by false i d ds o (Some n) (k, at, within, is) = (suc k, omega (arith, at), omega (arith, within), is)

found_from : (f : CodeWord → Definition) (p : Definition → Bool) (i : ℕ) (ws : List CodeWord) → IsWordFrom i (map f ws) (find p (map f ws)) (position_from (λ w. p (f w)) i ws)
found_from f p i [] = refl
found_from f p i (w ∷ ws) =
    word_by (p (f w)) i (f w) (map f ws) (find p (map f ws)) (position_from (λ w. p (f w)) (i + 1) ws) (found_from f p (i + 1) ws)

word_of : (ds : List Definition) (o : Option Definition) (r : Option ℕ) → IsWordFrom 0 ds o r → IsWord ds o r
word_of ds o None h = h
word_of ds o (Some n) (k, at, within, is) =
    let same : k ≡ n = omega (arith, at) in
    subst (λ m. (m < length ds) × (o ≡ slice_get ds m)) same (within, is)

-- the place of the word of a name that is offered
pub named_word : (code : Code) (a : Actor) (name : List ℕ) → IsWord (tree_of code).words (called_word a (Some name) (tree_of code)) (position (λ w. bytes_eq w.name (map to_ascii_lowercase name) && is_offered a w.offer) code.words)
named_word code a name =
    subst (IsWord (tree_of code).words (called_word a (Some name) (tree_of code))) (sym (position_from-zero (λ w. bytes_eq w.name (map to_ascii_lowercase name) && is_offered a w.offer) code.words))
    (word_of (tree_of code).words (called_word a (Some name) (tree_of code)) _ (found_from (definition_at code.placed) (λ d. bytes_eq d.name (map to_ascii_lowercase name) && is_offered a d.offer) 0 code.words))

last_at : (d : Definition) (ds : List Definition) → last_word (d ∷ ds) ≡ slice_get (d ∷ ds) (length ds)
last_at d [] = refl
last_at d (e ∷ ds) = last_at e ds

last_by : (ds : List Definition) (n : ℕ) (r : Option ℕ) → length ds ≡ n → SomeIff r (1 ≤ n) (n - 1) → IsWord ds (last_word ds) r
last_by [] n None e h = refl
last_by [] n (Some m) e h = absurd (let some : 1 ≤ n = h.0 in omega (arith, some, e))
last_by (d ∷ ds) n None e h = absurd (h (omega (arith, e)))
last_by (d ∷ ds) n (Some m) e h =
    let one : length ds ≡ m = (let back : m ≡ n - 1 = h.1 in omega (arith, e, back)) in
    subst (λ m. (m < length (d ∷ ds)) × (last_word (d ∷ ds) ≡ slice_get (d ∷ ds) m)) one (omega arith, last_at d ds)

-- and that of the last one
pub last_place : (code : Code) (a : Actor) (r : Option ℕ) → SomeIff r (1 ≤ length code.words) (length code.words - 1) → IsWord (tree_of code).words (called_word a None (tree_of code)) r
last_place code a r h = last_by (tree_of code).words (length code.words) r (length-map code.words (definition_at code.placed)) h

-- ---- a row that was applied to the frame of a process

-- the frame has another stack, and nothing else of it has changed
pub stack_differs : (stack : List Datum) (f g : Shown) → flat g ≡ record (flat f) { stack = stack } → Differs (flat f) (flat g)
stack_differs stack f g h = subst (λ e. Differs (flat f) e) (sym h) refl

-- and so has the process
pub stack_behind : (stack : List Datum) (f g : Shown) (s : Source) → Shows (flat f) s → flat g ≡ record (flat f) { stack = stack } → state_behind stack s ≡ item_passed (with_frame (flat g) s)
stack_behind stack f g s shows h =
    ap (λ (c : List Datum). item_passed (record s { stack = stack; common = c })) (sym shows.common)
    ∙ ap (λ (o : List Owned). item_passed (record s { stack = stack; common = (flat f).common; owned = o })) (sym shows.owned)
    ∙ ap (λ (e : Flat). item_passed (with_frame e s)) (sym h)

-- or it has the one that it had
pub same_stack : (f g : Shown) (s : Source) → Shows (flat f) s → g ≡ f → with_frame (flat g) s ≡ s
same_stack f g s shows h =
    ap (λ (x : Shown). with_frame (flat x) s) h ∙ ap (λ (x : List Datum). record s { stack = x; common = (flat f).common; owned = (flat f).owned }) shows.stack
    ∙ ap (λ (x : List Datum). record s { common = x; owned = (flat f).owned }) shows.common ∙ ap (λ (x : List Owned). record s { owned = x }) shows.owned

pub same_differs : (f g : Shown) → g ≡ f → Differs (flat f) (flat g)
same_differs f g h = subst (λ (x : Shown). Differs (flat f) (flat x)) (sym h) refl

applied_differs : (row : WorldAnswer) (f g : Shown) (w v : World) (u : Unit {0}) → AppliedTo row f g w v (Ok u) → Differs (flat f) (flat g)
applied_differs (gives stack live) f g w v u h = stack_differs stack f g h.0
applied_differs (refuses e) f g w v u h = absurd h
applied_differs (breaks e live) f g w v u h = absurd h

-- it goes on behind the primitive
row_passes : (row : WorldAnswer) (es : List Entered) (f g : Shown) (w v : World) (s : Source) (u : Unit {0}) → Apart es (flat f) s → AppliedTo row f g w v (Ok u) → IsAtPrimitive s.now → PassesOn es (flat g)
row_passes row es f g w v s u apart h at = (flat f, s, apart, applied_differs row f g w v u h, at)

-- and with the stack of the row
row_lifted : (row : WorldAnswer) (f g : Shown) (w v : World) (s : Source) (u : Unit {0}) → Shows (flat f) s → AppliedTo row f g w v (Ok u) → lifted s w row ≡ does (item_passed (with_frame (flat g) s)) v
row_lifted (gives stack live) f g w v s u shows h = ap (λ x. does (state_behind stack s) x) (sym h.1) ∙ ap (λ (y : Source). does y v) (stack_behind stack f g s shows h.0)
row_lifted (refuses e) f g w v s u shows h = absurd h
row_lifted (breaks e live) f g w v s u shows h = absurd h

row_does : (row : WorldAnswer) (es : List Entered) (f g : Shown) (w v : World) (s t : Source) (u : Unit {0}) → Apart es (flat f) s → Shows (flat f) s → AppliedTo row f g w v (Ok u) →
    ((e : Flat) (r : Source) → Apart es e r → Differs e (flat g) → t ≡ item_passed (with_frame (flat g) r)) → lifted s w row ≡ does t v
row_does row es f g w v s t u apart shows h so =
    row_lifted row f g w v s u shows h ∙ ap (λ x. does x v) (sym (so (flat f) s apart (applied_differs row f g w v u h)))

-- where it is refused, the process is as it was
row_rejoins : (row : WorldAnswer) (es : List Entered) (f g : Shown) (w v : World) (s : Source) (e : MufFault) → Apart es (flat f) s → AppliedTo row f g w v (Err (FrameFault e)) → Rejoins es (flat g)
row_rejoins (gives stack live) es f g w v s e apart h = absurd h
row_rejoins (refuses d) es f g w v s e apart h =
    (flat f, s, apart, same_differs f g h.1)
row_rejoins (breaks d live) es f g w v s e apart h =
    (flat f, s, apart, same_differs f g h.1)

row_fails : (row : WorldAnswer) (es : List Entered) (f g : Shown) (w v : World) (s t : Source) (e : MufFault) → Apart es (flat f) s → Shows (flat f) s → AppliedTo row f g w v (Err (FrameFault e)) →
    ((x : Flat) (r : Source) → Apart es x r → Differs x (flat g) → t ≡ with_frame (flat g) r) → DoneAs (lifted s w row) s v (DoneFails t e)
row_fails (gives stack live) es f g w v s t e apart shows h so = absurd h
row_fails (refuses d) es f g w v s t e apart shows h so =
    let same : t ≡ with_frame (flat g) s = so (flat f) s apart (same_differs f g h.1) in
    (same ∙ same_stack f g s shows h.1, ap (λ x. fails x w) (sym h.0) ∙ ap (λ x. fails e x) (sym h.2))
row_fails (breaks d live) es f g w v s t e apart shows h so =
    let same : t ≡ with_frame (flat g) s = so (flat f) s apart (same_differs f g h.1) in
    (same ∙ same_stack f g s shows h.1, ap (λ x. fails x (record w { live = live })) (sym h.0) ∙ ap (λ x. fails e x) (sym h.2))

-- the row as the frame shows what it asks of
row_seen : (p : Name) (a b : Actor) (descr : Option ℕ) (f : Flat) (s : Source) (w : Live) → a ≡ b → Shows f s → shared p a descr (locked_by f.marks) f.stack w ≡ shared p b descr (locked_of s.marks) s.stack w
row_seen p a b descr f s w same shows =
    ap (λ (x : Actor). shared p x descr (locked_by f.marks) f.stack w) same
    ∙ ap (λ (n : ℕ). shared p b descr n f.stack w) shows.locked
    ∙ ap (λ (x : List Datum). shared p b descr (locked_of s.marks) x w) shows.stack

pub done_so : (x : Agent) (p : Name) (a : Actor) (es : List Entered) (f g : Shown) (w v : World) (s t : Source) (r : Result (Unit {0}) PrimFault) (u : Unit {0}) → a ≡ acting x s w.live.objects → Apart es (flat f) s → Shows (flat f) s →
    AppliedTo (shared p a x.descr (locked_by (flat f).marks) (flat f).stack w.live) f g w v r → r ≡ Ok u →
    ((e : Flat) (r : Source) → Apart es e r → Differs e (flat g) → t ≡ item_passed (with_frame (flat g) r)) → row_done x p s w ≡ does t v
unfolding row_done
done_so x p a es f g w v s t r u same apart shows h is so =
    let row : WorldAnswer = shared p a x.descr (locked_by (flat f).marks) (flat f).stack w.live in
    ap (lifted s w) (sym (row_seen p a (acting x s w.live.objects) x.descr (flat f) s w.live same shows)) ∙ row_does row es f g w v s t u apart shows (subst (λ q. AppliedTo row f g w v q) is h) so

pub passes_so : (row : WorldAnswer) (es : List Entered) (f g : Shown) (w v : World) (s : Source) (r : Result (Unit {0}) PrimFault) (u : Unit {0}) → Apart es (flat f) s → AppliedTo row f g w v r → r ≡ Ok u → IsAtPrimitive s.now → PassesOn es (flat g)
passes_so row es f g w v s r u apart h is at = row_passes row es f g w v s u apart (subst (λ q. AppliedTo row f g w v q) is h) at

pub fails_so : (x : Agent) (p : Name) (a : Actor) (es : List Entered) (f g : Shown) (w v : World) (s t : Source) (r : Result (Unit {0}) PrimFault) (e : MufFault) → a ≡ acting x s w.live.objects → Apart es (flat f) s → Shows (flat f) s →
    AppliedTo (shared p a x.descr (locked_by (flat f).marks) (flat f).stack w.live) f g w v r → r ≡ Err (FrameFault e) →
    ((x : Flat) (r : Source) → Apart es x r → Differs x (flat g) → t ≡ with_frame (flat g) r) → DoneAs (row_done x p s w) s v (DoneFails t e)
unfolding row_done
fails_so x p a es f g w v s t r e same apart shows h is so =
    let row : WorldAnswer = shared p a x.descr (locked_by (flat f).marks) (flat f).stack w.live in
    let known = row_fails row es f g w v s t e apart shows (subst (λ q. AppliedTo row f g w v q) is h) so in
    (known.0, ap (lifted s w) (sym (row_seen p a (acting x s w.live.objects) x.descr (flat f) s w.live same shows)) ∙ known.1)

pub rejoins_so : (row : WorldAnswer) (es : List Entered) (f g : Shown) (w v : World) (s : Source) (r : Result (Unit {0}) PrimFault) (e : MufFault) → Apart es (flat f) s → AppliedTo row f g w v r → r ≡ Err (FrameFault e) → Rejoins es (flat g)
rejoins_so row es f g w v s r e apart h is =
    row_rejoins row es f g w v s e apart (subst (λ q. AppliedTo row f g w v q) is h)

-- a primitive of a family without rows
no_row_in : (descr : Option ℕ) (family : Family) (p : Name) → (family ≡ ObjectFamily → ⊥) → (family ≡ Property → ⊥) → (family ≡ Talk → ⊥) → doing_in descr family p ≡ None
no_row_in descr ObjectFamily p g h k = absurd (g refl)
no_row_in descr Property p g h k = absurd (h refl)
no_row_in descr Talk p g h k = absurd (k refl)
no_row_in descr _ p g h k = refl

pub without_row : (p : Name) (a : Actor) (descr : Option ℕ) (locked : ℕ) (stack : List Datum) (w : Live) → (family_of p ≡ ObjectFamily → ⊥) → (family_of p ≡ Property → ⊥) → (family_of p ≡ Talk → ⊥) → shared p a descr locked stack w ≡ refuses NotCompiled
unfolding shared
without_row p a descr locked stack w g h k = ap (λ (row : Option RowDoing). primitive_done row p a locked stack w) (no_row_in descr (family_of p) p g h k)

-- ---- items that are dropped from the frame of a process

shown_length : (f : Shown) (s : Source) → Shows (flat f) s → length s.stack ≡ length f.stack
shown_length f s shows = ap length (sym shows.stack) ∙ length-map f.stack view

pub drops : (count : ℕ) (f : Shown) (s : Source) → Shows (flat f) s → count ≤ length s.stack → count ≤ length f.stack
drops count f s shows h = let same = shown_length f s shows in omega (arith, h, same)

dropped_differs : (count : ℕ) (f g : Shown) → g ≡ record f { stack = drop count f.stack } → Differs (flat f) (flat g)
dropped_differs count f g e = subst (λ (x : Shown). Differs (flat f) (flat x)) (sym e) refl

pub dropped_passes : (count : ℕ) (es : List Entered) (f g : Shown) (s : Source) → Apart es (flat f) s → IsAtPrimitive s.now → g ≡ record f { stack = drop count f.stack } → PassesOn es (flat g)
dropped_passes count es f g s apart at e = (flat f, s, apart, dropped_differs count f g e, at)

pub dropped_behind : (count : ℕ) (es : List Entered) (f g : Shown) (s t : Source) → Apart es (flat f) s → Shows (flat f) s → g ≡ record f { stack = drop count f.stack } →
    ((x : Flat) (r : Source) → Apart es x r → Differs x (flat g) → t ≡ item_passed (with_frame (flat g) r)) → t ≡ state_behind (drop count s.stack) s
dropped_behind count es f g s t apart shows e so =
    so (flat f) s apart (dropped_differs count f g e)
    ∙ ap (λ (x : Shown). item_passed (with_frame (flat x) s)) e
    ∙ ap (λ (x : List Datum). item_passed (record s { stack = x; common = (flat f).common; owned = (flat f).owned })) (map_drop view count f.stack ∙ ap (drop count) shows.stack)
    ∙ ap (λ (x : List Datum). item_passed (record s { stack = drop count s.stack; common = x; owned = (flat f).owned })) shows.common
    ∙ ap (λ (x : List Owned). item_passed (record s { stack = drop count s.stack; owned = x })) shows.owned

pub dropped_room : (count : ℕ) (f g : Shown) (s : Source) → Shows (flat f) s → g ≡ record f { stack = drop count f.stack } → length g.stack + count ≤ 1024 → length (drop count s.stack) + count ≤ 1024
dropped_room count f g s shows e most =
    let same : length (drop count s.stack) ≡ length g.stack =
    ap (λ (x : List Datum). length (drop count x)) (sym shows.stack) ∙ ap length (sym (map_drop view count f.stack)) ∙ length-map (drop count f.stack) view ∙ ap (λ (x : Shown). length x.stack) (sym e) in
    omega (arith, most, same)
