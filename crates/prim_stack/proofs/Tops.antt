-- The rows of the stack, by the items at the top.
use Rattle.std.proofs.Common.{length-take, true, false, ◌≡◌, ℕ, zero, suc, ◌+◌, ◌-◌, ◌<◌, List, [], ◌∷◌, ◌++◌, length, map, take, drop, reverse, refl, ap, sym, ◌∙◌, arith, rules}
use Rattle.std.specs.Prelude.{ℤ, pos, negsuc, Option, Some, None, slice_get, slice_set, option_map}
use Rattle.std.proofs.lemmas.List.{length-map, map-append, map-set}
use Rattle.std.specs.List.{position, position_or_len}
use Rattle.std.proofs.lemmas.Option.{slice_get-map}
use Rattle.muck_laws.proofs.Mapped.{map_drop, map_take}
use Rattle.muck_laws.proofs.Places.{first_one, get_taken}
use Rattle.muck_laws.proofs.Turned.{map_reverse}
use Rattle.muf_model.specs.declared.value.Value.{Value}
use Rattle.muf_model.specs.inner.View.{view}
use Rattle.muf_model.specs.StackRows.{is_mark, above_locked, rotated, rotated_up, rotated_down, item_put_at}
use Rattle.muf_model.specs.declared.fault.MufFault.TheVariants.{BadType}
use Rattle.muf_model.specs.Datum.{Datum, int}
use Rattle.muf_model.specs.Answer.{Answer, gives, refuses, needing, Scope, answer_unless}
use Rattle.muf_frame.specs.inner.Answers.{int_at}
use Rattle.prim_stack.specs.inner.Does.{mark_in}
use Rattle.muf_frame.proofs.Ladders.{kinds, used_plain, used_whole}
use Rattle.muf_model.specs.declared.prims.Primitive.TheVariants.{Rotate}
use Rattle.muf_model.specs.Needs.{an_int}
use Rattle.muf_model.specs.Rows.{primitive}
use Rattle.prim_stack.proofs.Counts.{counted_used}

pub ruleset give_steps = (used_plain, length-map)

pub ruleset count_steps = (counted_used, length-map)

-- the deepest of n items goes to the top
pub lifted : (n : ℕ) (xs : List Value) (v : Value) → 0 < n → slice_get xs (n - 1) ≡ Some v → view v ∷ map view (take (n - 1) xs ++ drop (n - 1 + 1) xs) ≡ rotated_up n (map view xs)
lifted zero xs v h s = absurd (omega (arith, h))
lifted (suc n) xs v h s =
    let e : suc n - 1 ≡ n = omega arith in
    let k : n + 1 ≡ suc n = omega arith in
    let t : slice_get xs n ≡ Some v = ap (slice_get xs) (sym e) ∙ s in
    rw (e, k, map-append, map_take, map_drop) (ap (λ r. r ++ (take n (map view xs) ++ drop (suc n) (map view xs))) (sym (first_one n (map view xs) (view v) (slice_get-map view xs n ∙ ap (option_map view) t))))

-- the top goes below the others of n items
pub sunk : (n : ℕ) (x : Value) (xs : List Value) → 0 < n → map view (take (n - 1) xs ++ (x ∷ drop (n - 1) xs)) ≡ rotated_down n (view x ∷ map view xs)
sunk zero x xs h = absurd (omega (arith, h))
sunk (suc n) x xs h =
    let e : suc n - 1 ≡ n = omega arith in
    rw (e) (map-append view (take n xs) (x ∷ drop n xs) ∙ ap (λ a. a ++ map view (x ∷ drop n xs)) (map_take view n xs) ∙ ap (λ b. take n (map view xs) ++ (view x ∷ b)) (map_drop view n xs))

abbrev rotate_read : ℕ → List Datum → Option ℤ → Answer
rotate_read locked stack (Some (pos n)) = needing (n + 1) locked stack (gives (rotated_up n (drop 1 stack)))
rotate_read locked stack (Some (negsuc n)) = needing (suc n + 1) locked stack (gives (rotated_down (suc n) (drop 1 stack)))
rotate_read locked stack None = refuses BadType

rotated_read : (s : Scope) (stack : List Datum) → answer_unless (kinds (an_int ∷ []) stack) (rotated s stack) ≡ rotate_read s.locked stack (int_at 0 stack)
rotated_read s (int (pos n) ∷ rest) = refl
rotated_read s (int (negsuc n) ∷ rest) = refl
rotated_read s _ = refl

pub rotate_row : (s : Scope) (stack : List Datum) → primitive Rotate s stack ≡ needing 1 s.locked stack (rotate_read s.locked stack (int_at 0 stack))
rotate_row s stack = used_whole 1 an_int [] rotated s stack ∙ ap (needing 1 s.locked stack) (rotated_read s stack)

-- the item at the n-th place below the top, from 1
pub put_read : (rest : List Datum) (y : Datum) (n : ℕ) → 0 < n → item_put_at (y ∷ rest) n ≡ gives (slice_set rest (n - 1) y)
put_read rest y zero h = absurd (omega (arith, h))
put_read rest y (suc n) h = let e : suc n - 1 ≡ n = omega arith in rw e refl

pub turned_data : (n : ℕ) (xs : List Value) → map view (reverse (take n xs) ++ drop n xs) ≡ reverse (take n (map view xs)) ++ drop n (map view xs)
turned_data n xs = rw (map-append, map_drop, map_reverse, map_take) refl

pub ruleset move_steps = (lifted, sunk, put_read, turned_data, map_take, map_drop, map-set, length-map)

pub ruleset rotate_steps = (rotate_row, map_drop, length-map)

-- one item further, where it is no mark
pub mark_passed : (n : ℕ) (xs : List Datum) → n < length xs → mark_in (slice_get xs n) ≡ false → position_or_len is_mark (drop n xs) ≡ suc (position_or_len is_mark (drop (n + 1) xs))
mark_passed n [] h e = absurd (omega (arith, h))
mark_passed zero (x ∷ xs) h e =
    let g : is_mark x ≡ false = e in
    rw (g) (omega arith)
mark_passed (suc n) (x ∷ xs) h e = let k : suc n + 1 ≡ suc (n + 1) = omega arith in rw (k) (mark_passed n xs (omega (arith, h)) e)

-- and there, where it is one
pub mark_found : (n : ℕ) (xs : List Datum) → mark_in (slice_get xs n) ≡ true → position_or_len is_mark (drop n xs) ≡ 0
mark_found n [] e = absurd (search (rules, e))
mark_found zero (x ∷ xs) e =
    let g : is_mark x ≡ true = e in
    rw (g) refl
mark_found (suc n) (x ∷ xs) e = mark_found n xs e

length_above : (l : ℕ) (s : List Datum) → length (above_locked l s) ≡ length s - l
length_above l s = omega (arith, length-take (length s - l) s)

position_here : (n : ℕ) (xs : List Datum) → position_or_len is_mark xs ≡ n → n < length xs → position is_mark xs ≡ Some n
position_here n xs e h = rw (e) (search (rules, h))

pub nearest_here : (l n : ℕ) (s : List Datum) → n < length s - l → position_or_len is_mark (above_locked l s) ≡ n + position_or_len is_mark (drop n (above_locked l s)) → mark_in (slice_get s n) ≡ true → Some n ≡ position is_mark (above_locked l s)
nearest_here l n s h e m =
    let f : position_or_len is_mark (drop n (above_locked l s)) ≡ 0 = mark_found n (above_locked l s) (ap mark_in (get_taken n (length s - l) s h) ∙ m) in
    sym (position_here n (above_locked l s) (omega (arith, e, f)) (omega (arith, h, length_above l s)))

pub nearest_further : (l n : ℕ) (s : List Datum) → n < length s - l → position_or_len is_mark (above_locked l s) ≡ n + position_or_len is_mark (drop n (above_locked l s)) → mark_in (slice_get s n) ≡ false → position_or_len is_mark (above_locked l s) ≡ n + 1 + position_or_len is_mark (drop (n + 1) (above_locked l s))
nearest_further l n s h e m =
    let f : position_or_len is_mark (drop n (above_locked l s)) ≡ suc (position_or_len is_mark (drop (n + 1) (above_locked l s))) = mark_passed n (above_locked l s) (omega (arith, h, length_above l s)) (ap mark_in (get_taken n (length s - l) s h) ∙ m) in
    omega (arith, e, f)

pub closed_data : (n : ℕ) (xs : List Value) → map view (take n xs ++ drop (n + 1) xs) ≡ take n (map view xs) ++ drop (n + 1) (map view xs)
closed_data n xs = map-append view (take n xs) (drop (n + 1) xs) ∙ ap (λ a. a ++ map view (drop (n + 1) xs)) (map_take view n xs) ∙ ap (λ b. take n (map view xs) ++ b) (map_drop view (n + 1) xs)

pub ruleset mark_steps = (slice_get-map, length-map)

pub ruleset close_steps = (closed_data)
