-- The rows that copy items.
use Rattle.std.proofs.Common.{length-take, length-drop, Bool, true, false, ◌≡◌, ℕ, zero, suc, ◌+◌, ◌-◌, ◌<◌, ◌≤◌, List, [], ◌∷◌, ◌++◌, length, map, take, drop, refl, ap, sym, ◌∙◌, arith, rules}
use Rattle.std.specs.Prelude.{if◌then◌else◌, pos, Option, Some, None, slice_get}
use Rattle.std.proofs.lemmas.List.{length-map, map-append}
use Rattle.muck_laws.proofs.Mapped.{map_drop, map_take}
use Rattle.muck_laws.proofs.Parts.{drop_taken}
use Rattle.muck_laws.proofs.Places.{first_one, get_drop, get_taken}
use Rattle.muf_model.specs.Datum.{Datum, int}
use Rattle.muf_model.specs.Measures.{is_true_item}
use Rattle.muf_model.specs.Answer.{gives, stack_fitting, Scope, makes, needing, items_put, answer_unless}
use Rattle.muf_model.specs.declared.prims.Primitive.TheVariants.{Dup, DupTrue, Over, Tuck}
use Rattle.muf_model.specs.Needs.{anything}
use Rattle.muf_model.specs.Rows.{primitive}
use Rattle.muf_frame.proofs.Ladders.{kinds, used_plain}
use Rattle.muf_model.specs.inner.View.{view}
use Rattle.muf_model.specs.StackRows.{doubled, doubled_true, overed, tucked, item_picked, doubled_list}
use Rattle.muf_model.specs.declared.value.Value.{Value}
use Rattle.muf_frame.specs.inner.Answers.{int_at}
use Rattle.std.proofs.Math.Seq.{drop-append_seam}
use Rattle.prim_stack.specs.inner.Does.{true_in}

abbrev or_else : {A : Type 0} → A → Option A → A
or_else d (Some x) = x
or_else d None = d

doubled_read : (stack : List Datum) (x : Datum) → slice_get stack 0 ≡ Some x → answer_unless (kinds (anything ∷ []) stack) (items_put 1 (doubled (take 1 stack)) (drop 1 stack)) ≡ stack_fitting (x ∷ stack)
doubled_read [] x e = absurd (search (rules, e))
doubled_read (y ∷ rest) x e = ap (λ z. stack_fitting (z ∷ y ∷ rest)) (ap (or_else y) e)

pub dup_row : (s : Scope) (stack : List Datum) (x : Datum) → slice_get stack 0 ≡ Some x → primitive Dup s stack ≡ needing 1 s.locked stack (stack_fitting (x ∷ stack))
dup_row s stack x e = used_plain 1 anything [] doubled s stack ∙ ap (needing 1 s.locked stack) (doubled_read stack x e)

doubled_true_read : (b : Bool) (y : Datum) (rest : List Datum) → b ≡ true → items_put 1 (makes (if b then y ∷ y ∷ [] else y ∷ [])) rest ≡ stack_fitting (y ∷ y ∷ rest)
doubled_true_read true y rest e = refl
doubled_true_read false y rest e = absurd (search (rules, e))

doubled_false_read : (b : Bool) (y : Datum) (rest : List Datum) → b ≡ false → items_put 1 (makes (if b then y ∷ y ∷ [] else y ∷ [])) rest ≡ gives (y ∷ rest)
doubled_false_read true y rest e = absurd (search (rules, e))
doubled_false_read false y rest e = refl

pub dup_true_row : (s : Scope) (stack : List Datum) (x : Datum) → slice_get stack 0 ≡ Some x → true_in (slice_get stack 0) ≡ true → primitive DupTrue s stack ≡ needing 1 s.locked stack (stack_fitting (x ∷ stack))
dup_true_row s [] x e t = absurd (search (rules, e))
dup_true_row s (y ∷ rest) x e t =
    used_plain 1 anything [] doubled_true s (y ∷ rest)
    ∙ ap (needing 1 s.locked (y ∷ rest)) (doubled_true_read (is_true_item y) y rest t ∙ ap (λ z. stack_fitting (z ∷ y ∷ rest)) (ap (or_else y) e))

pub dup_false_row : (s : Scope) (stack : List Datum) → 0 < length stack → true_in (slice_get stack 0) ≡ false → primitive DupTrue s stack ≡ needing 1 s.locked stack (gives stack)
dup_false_row s [] h t = absurd (omega (arith, h))
dup_false_row s (y ∷ rest) h t =
    used_plain 1 anything [] doubled_true s (y ∷ rest) ∙ ap (needing 1 s.locked (y ∷ rest)) (doubled_false_read (is_true_item y) y rest t)

overed_read : (stack : List Datum) (x : Datum) → slice_get stack 1 ≡ Some x → answer_unless (kinds (anything ∷ anything ∷ []) stack) (items_put 2 (overed (take 2 stack)) (drop 2 stack)) ≡ stack_fitting (x ∷ stack)
overed_read [] x e = absurd (search (rules, e))
overed_read (y ∷ []) x e = absurd (search (rules, e))
overed_read (y ∷ z ∷ rest) x e = ap (λ w. stack_fitting (w ∷ y ∷ z ∷ rest)) (ap (or_else z) e)

pub over_row : (s : Scope) (stack : List Datum) (x : Datum) → slice_get stack 1 ≡ Some x → primitive Over s stack ≡ needing 2 s.locked stack (stack_fitting (x ∷ stack))
over_row s stack x e = used_plain 1 anything (anything ∷ []) overed s stack ∙ ap (needing 2 s.locked stack) (overed_read stack x e)

tucked_read : (stack : List Datum) (x : Datum) → slice_get stack 0 ≡ Some x → 1 < length stack → answer_unless (kinds (anything ∷ anything ∷ []) stack) (items_put 2 (tucked (take 2 stack)) (drop 2 stack)) ≡ stack_fitting (take 2 stack ++ (x ∷ drop 2 stack))
tucked_read [] x e h = absurd (search (rules, e))
tucked_read (y ∷ []) x e h = absurd (omega (arith, h))
tucked_read (y ∷ z ∷ rest) x e h = ap (λ w. stack_fitting (y ∷ z ∷ w ∷ rest)) (ap (or_else y) e)

pub tuck_row : (s : Scope) (stack : List Datum) (x : Datum) → slice_get stack 0 ≡ Some x → 1 < length stack → primitive Tuck s stack ≡ needing 2 s.locked stack (stack_fitting (take 2 stack ++ (x ∷ drop 2 stack)))
tuck_row s stack x e h = used_plain 1 anything (anything ∷ []) tucked s stack ∙ ap (needing 2 s.locked stack) (tucked_read stack x e h)

pub tucked_data : (x : Value) (xs : List Value) → map view (take 2 xs ++ (x ∷ drop 2 xs)) ≡ take 2 (map view xs) ++ (view x ∷ drop 2 (map view xs))
tucked_data x xs = map-append view (take 2 xs) (x ∷ drop 2 xs) ∙ ap (λ a. a ++ map view (x ∷ drop 2 xs)) (map_take view 2 xs) ∙ ap (λ b. take 2 (map view xs) ++ (view x ∷ b)) (map_drop view 2 xs)

pub picked_read : (stack : List Datum) (n : ℕ) (x : Datum) → 0 < n → slice_get stack n ≡ Some x → item_picked (drop 1 stack) n ≡ gives (x ∷ drop 1 stack)
picked_read stack zero x h e = absurd (omega (arith, h))
picked_read [] (suc n) x h e = absurd (search (rules, e))
picked_read (y ∷ rest) (suc n) x h e = ap (λ l. gives (l ++ rest)) (first_one n rest x e)

drop_from : {A : Type 0} → (n : ℕ) (xs : List A) (x : A) → slice_get xs n ≡ Some x → drop n xs ≡ x ∷ drop (n + 1) xs
drop_from n [] x e = absurd (search (rules, e))
drop_from zero (y ∷ ys) x e = ap (λ z. z ∷ ys) (ap (or_else y) e)
drop_from (suc n) (y ∷ ys) x e =
    let k : suc n + 1 ≡ suc (n + 1) = omega arith in
    rw (k) (drop_from n ys x e)

-- the next of n items that go to the top once more
pub next_copied : (n k : ℕ) (xs : List Datum) (x : Datum) → k < n → n ≤ length xs → slice_get (drop (n - k) (take n xs) ++ xs) (n - 1) ≡ Some x → x ∷ (drop (n - k) (take n xs) ++ xs) ≡ drop (n - (k + 1)) (take n xs) ++ xs
next_copied n k xs x h l e =
    let t : length (take n xs) ≡ n = omega (arith, length-take n xs, l) in
    let d : length (drop (n - k) (take n xs)) ≡ k = omega (arith, length-drop (n - k) (take n xs), t, h) in
    let j : n - 1 ≡ length (drop (n - k) (take n xs)) + (n - (k + 1)) = omega (arith, d, h) in
    let g : slice_get xs (n - (k + 1)) ≡ Some x = sym (sym (get_drop (length (drop (n - k) (take n xs))) (n - (k + 1)) (drop (n - k) (take n xs) ++ xs)) ∙ ap (λ r. slice_get r (n - (k + 1))) (drop-append_seam (drop (n - k) (take n xs)) xs)) ∙ ap (slice_get (drop (n - k) (take n xs) ++ xs)) (sym j) ∙ e in
    let i : n - (k + 1) + 1 ≡ n - k = omega (arith, h) in
    let f : drop (n - (k + 1)) (take n xs) ≡ x ∷ drop (n - k) (take n xs) = drop_from (n - (k + 1)) (take n xs) x (get_taken (n - (k + 1)) n xs (omega (arith, h)) ∙ g) ∙ ap (λ m. x ∷ drop m (take n xs)) i in
    sym (ap (λ r. r ++ xs) f)

-- none of them yet, and all of them
pub none_copied : (n : ℕ) (xs : List Datum) → xs ≡ drop (n - 0) (take n xs) ++ xs
none_copied n xs =
    let k : n - 0 ≡ n = omega arith in
    sym (ap (λ r. r ++ xs) (ap (λ m. drop m (take n xs)) k ∙ drop_taken n xs))

pub all_copied : (n : ℕ) (xs : List Datum) → drop (n - n) (take n xs) ++ xs ≡ take n xs ++ xs
all_copied n xs = let k : n - n ≡ 0 = omega arith in rw (k) refl

pub listed_read : (stack : List Datum) (n : ℕ) → int_at 0 stack ≡ Some (pos n) → doubled_list (drop 1 stack) n ≡ stack_fitting (take (n + 1) stack ++ stack)
listed_read [] n e = absurd (search (rules, e))
listed_read (int i ∷ rest) n e =
    let g : i ≡ pos n = ap (or_else i) e in
    let k : n + 1 ≡ suc n = omega arith in
    rw (g, k) refl
listed_read (y ∷ rest) n e = absurd (search (rules, e))

pub ruleset copy_steps = (dup_row, dup_true_row, dup_false_row, over_row, length-map)

pub ruleset tuck_steps = (tuck_row, tucked_data, length-map)

pub ruleset pick_steps = (picked_read, map_drop, length-map)

pub ruleset many_steps = (next_copied, none_copied, all_copied, length-map)

pub ruleset dupn_steps = (map_drop, length-map)

pub ruleset ldup_steps = (listed_read, length-map)
