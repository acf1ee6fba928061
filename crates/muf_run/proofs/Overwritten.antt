-- What a variable holds that is stored to, and isn't read before, makes no difference.
use Rattle.std.proofs.Common.{◌≡◌, ℕ, zero, suc, ◌+◌, ◌-◌, ◌≤◌, ◌<◌, List, [], ◌∷◌, length, drop, Bool, true, false, refl, sym, ap, subst, ◌∙◌, arith}
use Rattle.std.specs.Prelude.{ℤ, Option, Some, None, slice_get, slice_set, is_some, nat_lt, if◌then◌else◌}
use Rattle.std.specs.Ordering.{int_eq}
use Rattle.std.proofs.lemmas.Bool.{le-ltb}
use Rattle.std.proofs.lemmas.List.{set-set, length-drop}
use Rattle.muck_laws.proofs.Numbers.{int_equal_itself}
use Rattle.muck_laws.proofs.Places.{get_drop}
use Rattle.muf_model.specs.declared.code.Code.{Code}
use Rattle.muf_model.specs.declared.code.VarId.{VarId}
use Rattle.muf_model.specs.declared.code.Word.{Word}
use Rattle.muf_model.specs.declared.code.Word.TheVariants.{Primitive, Variable}
use Rattle.muf_model.specs.declared.code.Instr.TheVariants.{Plain, Begin}
use Rattle.muf_model.specs.declared.prims.Primitive.TheVariants.{Store}
use Rattle.muf_model.specs.Datum.{Datum, variable}
use Rattle.muf_model.specs.Answer.{gives, stores, Scope, variable_at, owned_first, call_first}
use Rattle.muf_model.specs.Needs.{a_variable, anything}
use Rattle.muf_model.specs.StackRows.{item_stored, variable_storing}
use Rattle.muf_model.specs.Rows.{primitive}
use Rattle.muf_model.specs.Source.{Owned, variables_owned_by, with_owned}
use Rattle.muf_model.specs.inner.Flat.{Flat}
use Rattle.muf_frame.specs.inner.Shown.{locked_by}
use Rattle.muf_frame.specs.inner.Moves.{scope_of, with_variable}
use Rattle.muf_frame.specs.inner.Answers.{Became}
use Rattle.muf_frame.proofs.Ladders.{used_whole}
use Rattle.muf_array.specs.declared.changers.Changer.{Changer}
use Rattle.muf_array.specs.declared.changers.Changer.TheVariants.{SetItem, InsertItem, AppendItem, DelItem}
use Rattle.muf_array.proofs.Taking.{enough}
use Rattle.muf_array.specs.inner.Open.{prim_of, taken_by, IsOpen}
use Rattle.muf_run.specs.inner.Machine as machine
use Rattle.muf_run.specs.inner.Machine.{going}
use Rattle.muf_run.specs.inner.Ends.{UnitEnds, Leads}
use Rattle.muf_run.specs.inner.Storing.{HasWord, Stores, Stored}
use Rattle.muf_run.proofs.GoesOn.{quick_fits}

-- ---- the variables of a program

read_cases : (n : ℤ) (vs : List Datum) (o : Owned) (os : List Owned) (b : Bool) → int_eq o.program n ≡ b → variables_owned_by n (with_owned n vs os) ≡ vs → variables_owned_by n (if b then record { program = n; values = vs } ∷ os else o ∷ with_owned n vs os) ≡ vs
read_cases n vs o os true e h = rw (int_equal_itself n) refl
read_cases n vs o os false e h = rw e h

read_again : (n : ℤ) (vs : List Datum) (os : List Owned) → variables_owned_by n (with_owned n vs os) ≡ vs
read_again n vs [] = rw (int_equal_itself n) refl
read_again n vs (o ∷ os) = read_cases n vs o os (int_eq o.program n) refl (read_again n vs os)

write_cases : (n : ℤ) (vs ws : List Datum) (o : Owned) (os : List Owned) (b : Bool) → int_eq o.program n ≡ b → with_owned n ws (with_owned n vs os) ≡ with_owned n ws os → with_owned n ws (if b then record { program = n; values = vs } ∷ os else o ∷ with_owned n vs os) ≡ (if b then record { program = n; values = ws } ∷ os else o ∷ with_owned n ws os)
write_cases n vs ws o os true e h = rw (int_equal_itself n) refl
write_cases n vs ws o os false e h = rw e (ap (λ r. o ∷ r) h)

write_again : (n : ℤ) (vs ws : List Datum) (os : List Owned) → with_owned n ws (with_owned n vs os) ≡ with_owned n ws os
write_again n vs ws [] = rw (int_equal_itself n) refl
write_again n vs ws (o ∷ os) = write_cases n vs ws o os (int_eq o.program n) refl (write_again n vs ws os)

-- ---- a variable that is set twice

-- the frame with a variable's other value, by whose variable it is
abbrev written : Bool → Bool → ℕ → Datum → Flat → Flat
written common owned v x f =
    if common then record f { common = slice_set f.common v x }
    else (if owned then record f { owned = with_owned f.program (slice_set (variables_owned_by f.program f.owned) (v - owned_first) x) f.owned }
    else record f { variables = slice_set f.variables (f.base + (v - call_first)) x })

abbrev standing : List Datum → ℕ → Flat → Flat
standing stack place f = record f { stack = stack; place = place }

twice : (a b : Bool) (v : ℕ) (x y : Datum) (stack : List Datum) (place : ℕ) (f : Flat) → written a b v y (standing stack place (written a b v x f)) ≡ written a b v y (standing stack place f)
twice true b v x y stack place f = ap (λ l. record (standing stack place f) { common = l }) (set-set f.common v x y)
twice false true v x y stack place f =
    let i = v - owned_first in
    let vs = slice_set (variables_owned_by f.program f.owned) i x in
    ap (λ l. record (standing stack place f) { owned = with_owned f.program (slice_set l i y) (with_owned f.program vs f.owned) }) (read_again f.program vs f.owned)
    ∙ ap (λ l. record (standing stack place f) { owned = with_owned f.program l (with_owned f.program vs f.owned) }) (set-set (variables_owned_by f.program f.owned) i x y)
    ∙ ap (λ l. record (standing stack place f) { owned = l }) (write_again f.program vs (slice_set (variables_owned_by f.program f.owned) i y) f.owned)
twice false false v x y stack place f = ap (λ l. record (standing stack place f) { variables = l }) (set-set f.variables (f.base + (v - call_first)) x y)

kept_marks : (a b : Bool) (v : ℕ) (x : Datum) (f : Flat) → (written a b v x f).marks ≡ f.marks
kept_marks true b v x f = refl
kept_marks false true v x f = refl
kept_marks false false v x f = refl

kept_stack : (a b : Bool) (v : ℕ) (x : Datum) (f : Flat) → (written a b v x f).stack ≡ f.stack
kept_stack true b v x f = refl
kept_stack false true v x f = refl
kept_stack false false v x f = refl

moved : (a b : Bool) (v : ℕ) (x : Datum) (place : ℕ) (f : Flat) → record (written a b v x f) { place = place } ≡ written a b v x (record f { place = place })
moved true b v x place f = refl
moved false true v x place f = refl
moved false false v x place f = refl

set_there : (xs : List Datum) (i : ℕ) (x : Datum) → is_some (slice_get (slice_set xs i x) i) ≡ is_some (slice_get xs i)
set_there [] zero x = refl
set_there [] (suc i) x = refl
set_there (y ∷ xs) zero x = refl
set_there (y ∷ xs) (suc i) x = set_there xs i x

-- the value of a variable, by whose it is
abbrev read : Bool → Bool → ℕ → Scope → Option Datum
read common owned v s =
    if common then slice_get s.common v
    else (if owned then slice_get s.owned (v - owned_first) else slice_get s.variables (v - call_first))

still_there : (a b : Bool) (v : ℕ) (x : Datum) (words : ℕ) (f : Flat) → is_some (read a b v (scope_of words (written a b v x f))) ≡ is_some (read a b v (scope_of words f))
still_there true b v x words f = set_there f.common v x
still_there false true v x words f =
    let i = v - owned_first in
    ap (λ l. is_some (slice_get l i)) (read_again f.program (slice_set (variables_owned_by f.program f.owned) i x) f.owned) ∙ set_there (variables_owned_by f.program f.owned) i x
still_there false false v x words f =
    let i = v - call_first in
    ap is_some (get_drop f.base i (slice_set f.variables (f.base + i) x))
    ∙ set_there f.variables (f.base + i) x
    ∙ ap is_some (sym (get_drop f.base i f.variables))

-- ---- the three units

-- a word that goes on is a unit
word_ends : (code : Code) (f g : Flat) (w : Word) → HasWord code f.place w → machine.word code w (f.place + 1) f ≡ going 0 g → UnitEnds code f (going 0 g)
word_ends code f g w h k codes s fits =
    quick_fits fits h.0 h.1 (λ to b. (let e : Plain w ≡ Begin to = sym h.2 ∙ b in cc)) (ap (λ i. machine.instr code i (f.place + 1) f) h.2 ∙ k)

changed_word : (c : Changer) (code : Code) (next : ℕ) (stack : List Datum) (f : Flat) → primitive (prim_of c) (scope_of (length code.words) f) f.stack ≡ gives stack → machine.word code (Primitive (prim_of c)) next f ≡ going 0 (record f { stack = stack; place = next })
changed_word SetItem code next stack f e = ap (λ a. machine.answered code a (record f { place = next })) e
changed_word InsertItem code next stack f e = ap (λ a. machine.answered code a (record f { place = next })) e
changed_word AppendItem code next stack f e = ap (λ a. machine.answered code a (record f { place = next })) e
changed_word DelItem code next stack f e = ap (λ a. machine.answered code a (record f { place = next })) e

named_word : (v : VarId) (code : Code) (next : ℕ) (f : Flat) → length f.stack < 1024 → machine.word code (Variable v) next f ≡ going 0 (record f { stack = variable v.0 ∷ f.stack; place = next })
named_word v code next f h = rw (le-ltb 1024 (length (variable v.0 ∷ f.stack)) (omega (arith, h))) refl

some_stored : (o : Option Datum) (v : ℕ) (x : Datum) (rest : List Datum) → is_some o ≡ true → item_stored o v x rest ≡ stores v x rest
some_stored (Some old) v x rest e = refl
some_stored None v x rest e = cc

store_row : (s : Scope) (v : ℕ) (x : Datum) (rest : List Datum) → s.locked ≤ length rest → is_some (variable_at v s) ≡ true → primitive Store s (variable v ∷ x ∷ rest) ≡ stores v x rest
store_row s v x rest h e =
    let l : s.locked + 2 ≤ length (variable v ∷ x ∷ rest) = omega (arith, h) in
    used_whole 1 a_variable (anything ∷ []) variable_storing s (variable v ∷ x ∷ rest)
    ∙ enough 2 s.locked (variable v ∷ x ∷ rest) (item_stored (variable_at v s) v x rest) l
    ∙ some_stored (variable_at v s) v x rest e

stored_word : (v : ℕ) (code : Code) (next : ℕ) (x : Datum) (rest : List Datum) (f : Flat) → locked_by f.marks ≤ length rest → is_some (variable_at v (scope_of (length code.words) f)) ≡ true → machine.word code (Primitive Store) next (record f { stack = variable v ∷ x ∷ rest }) ≡ going 0 (with_variable v x (record f { stack = rest; place = next }))
stored_word v code next x rest f h e = ap (λ a. machine.answered code a (record f { stack = variable v ∷ x ∷ rest; place = next })) (store_row (scope_of (length code.words) f) v x rest h e)

two_at_least : (c : Changer) → 2 ≤ taken_by c
two_at_least SetItem = omega arith
two_at_least InsertItem = omega arith
two_at_least AppendItem = omega arith
two_at_least DelItem = omega arith

-- a change that is stored back is three units
pub stored_leads : (code : Code) (c : Changer) (v : VarId) (f g : Flat) → Stores code f.place c v → length f.stack ≤ 1024 → is_some (variable_at v.0 (scope_of 0 f)) ≡ true → Stored c v.0 (f.place + 3) f g → Leads 3 code f g
stored_leads code c v f g w full there h =
    let x = h.0.made in
    let rest = drop (taken_by c) f.stack in
    let first : Flat = record f { stack = x ∷ rest; place = f.place + 1 } in
    let second : Flat = record f { stack = variable v.0 ∷ x ∷ rest; place = f.place + 2 } in
    let more : f.place + 1 + 1 ≡ f.place + 2 = omega arith in
    let last : f.place + 2 + 1 ≡ f.place + 3 = omega arith in
    let room : length (x ∷ rest) < 1024 = omega (arith, full, h.0.enough, two_at_least c, length-drop (taken_by c) f.stack) in
    let height : locked_by f.marks ≤ length rest = omega (arith, h.0.enough, length-drop (taken_by c) f.stack) in (
      first,
      word_ends code f first (Primitive (prim_of c)) w.changes (changed_word c code (f.place + 1) (x ∷ rest) f (h.0.done (scope_of (length code.words) f) refl)),
      (
        second,
        word_ends code first second (Variable v) w.names (subst (λ n. machine.word code (Variable v) n first ≡ going 0 second) (sym more) (named_word v code (f.place + 2) first room)),
        (
          g,
          word_ends code second g (Primitive Store) w.stores (subst (λ n. machine.word code (Primitive Store) n second ≡ going 0 g) (sym last) (stored_word v.0 code (f.place + 3) x rest second height there ∙ ap (going 0) (sym h.1))),
          refl,
        ),
      ),
    )

-- ---- what is stored

-- the item at the top, taken off
popped : (s t : Flat) (x y : Datum) (rest : List Datum) → s ≡ record t { stack = y ∷ t.stack } → s.stack ≡ x ∷ rest → (y ≡ x) × (t ≡ record s { stack = rest })
popped s t x y rest e k =
    let q : y ∷ t.stack ≡ x ∷ rest = sym (ap {A = Flat} (λ f. f.stack) e) ∙ k in
    let here : y ≡ x = cc in
    let below : t.stack ≡ rest = cc in
    (here, ap {A = Flat} (λ f. record f { stack = t.stack }) (sym e) ∙ ap (λ l. record s { stack = l }) below)

-- by the frames on the way: with another value of the variable, with the change made, without its item, and with that stored
pub stores_made : (c : Changer) (v next : ℕ) (x item : Datum) (f g made bare kept : Flat) → IsOpen c f → g ≡ with_variable v x f → ((words : ℕ) → Became (primitive (prim_of c) (scope_of words g) g.stack) g made) → made ≡ record bare { stack = item ∷ bare.stack } → kept ≡ with_variable v item bare → Stored c v next f (record kept { place = next })
stores_made c v next x item f g made bare kept ready e b p k =
    let m : g.marks ≡ f.marks = ap {A = Flat} (λ h. h.marks) e ∙ kept_marks (nat_lt v owned_first) (nat_lt v call_first) v x f in
    let t : g.stack ≡ f.stack = ap {A = Flat} (λ h. h.stack) e ∙ kept_stack (nat_lt v owned_first) (nat_lt v call_first) v x f in
    let rest = drop (taken_by c) f.stack in
    let a : primitive (prim_of c) (scope_of 0 g) g.stack ≡ gives (ready.made ∷ rest) = ap (primitive (prim_of c) (scope_of 0 g)) t ∙ ready.done (scope_of 0 g) (ap locked_by m) in
    let q : made ≡ record g { stack = ready.made ∷ rest } = subst (λ r. Became r g made) a (b 0) in
    let o = popped made bare ready.made item rest p (ap {A = Flat} (λ h. h.stack) q) in
    let r : bare ≡ record g { stack = rest } = o.1 ∙ ap {A = Flat} (λ h. record h { stack = rest }) q in
    let w : kept ≡ with_variable v ready.made (record (with_variable v x f) { stack = rest }) = k ∙ ap (λ i. with_variable v i bare) o.0 ∙ ap {A = Flat} (λ h. with_variable v ready.made h) (r ∙ ap {A = Flat} (λ h. record h { stack = rest }) e) in (
      ready,
      ap {A = Flat} (λ h. record h { place = next }) w
          ∙ moved (nat_lt v owned_first) (nat_lt v call_first) v ready.made next (record (with_variable v x f) { stack = rest })
          ∙ twice (nat_lt v owned_first) (nat_lt v call_first) v x ready.made rest next f,
    )

-- a primitive that isn't refused still isn't with another value of a variable
pub still_fine : (c : Changer) (v : ℕ) (x : Datum) (f g : Flat) → IsOpen c f → g ≡ with_variable v x f → IsOpen c g
still_fine c v x f g ready e =
    let m : g.marks ≡ f.marks = ap {A = Flat} (λ h. h.marks) e ∙ kept_marks (nat_lt v owned_first) (nat_lt v call_first) v x f in
    let t : g.stack ≡ f.stack = ap {A = Flat} (λ h. h.stack) e ∙ kept_stack (nat_lt v owned_first) (nat_lt v call_first) v x f in
    record {
      enough = rw (m, t) ready.enough;
      made = ready.made;
      done = λ s q. ap (primitive (prim_of c) s) t ∙ ready.done s (q ∙ ap locked_by m) ∙ ap (λ l. gives (ready.made ∷ drop (taken_by c) l)) (sym t);
    }

-- and it leaves an item on the top
pub never_bare : (c : Changer) (g made : Flat) → IsOpen c g → ((words : ℕ) → Became (primitive (prim_of c) (scope_of words g) g.stack) g made) → made.stack ≡ [] → ⊥
never_bare c g made ready b n =
    let q : made ≡ record g { stack = ready.made ∷ drop (taken_by c) g.stack } = subst (λ r. Became r g made) (ready.done (scope_of 0 g) refl) (b 0) in
    let no : ready.made ∷ drop (taken_by c) g.stack ≡ [] = sym (ap {A = Flat} (λ h. h.stack) q) ∙ n in
    cc

-- the variable is still there to be stored to
pub there_still : (v : ℕ) (x : Datum) (f g made bare : Flat) (item : Datum) (c : Changer) → IsOpen c f → g ≡ with_variable v x f → ((words : ℕ) → Became (primitive (prim_of c) (scope_of words g) g.stack) g made) → made ≡ record bare { stack = item ∷ bare.stack } → is_some (variable_at v (scope_of 0 f)) ≡ true → is_some (variable_at v (scope_of 0 bare)) ≡ true
there_still v x f g made bare item c ready e b p h =
    let o = still_fine c v x f g ready e in
    let q : made ≡ record g { stack = o.made ∷ drop (taken_by c) g.stack } = subst (λ r. Became r g made) (o.done (scope_of 0 g) refl) (b 0) in
    ap {A = Flat} (λ k. is_some (variable_at v (scope_of 0 (record k { stack = bare.stack })))) (sym p ∙ q ∙ ap {A = Flat} (λ k. record k { stack = o.made ∷ drop (taken_by c) g.stack }) e)
    ∙ still_there (nat_lt v owned_first) (nat_lt v call_first) v x 0 f
    ∙ h
