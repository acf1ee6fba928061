-- Values that are read one behind the other.
use Rattle.std.proofs.Common.{◌≡◌, ℕ, ◌+◌, ◌-◌, ◌≤◌, List, [], ◌∷◌, ◌++◌, length, map, take, drop, reverse, Some, None, refl, ap, sym, ◌∙◌, arith}
use Rattle.std.specs.Prelude.{slice_get}
use Rattle.std.proofs.lemmas.Bool.{le-ltb}
use Rattle.std.proofs.lemmas.List.{length-map, drop_all, take_all, take_more, drop_more, reverse-append}
use Rattle.std.proofs.lemmas.Option.{slice_get_within, get_or_from_slice_get, slice_get-map}
use Rattle.std.specs.Option.{option_map}
use Rattle.muck_laws.proofs.Places.{none_past}
use Rattle.muf_model.specs.Answer.{Scope, variable_at}
use Rattle.muf_model.specs.Datum.{Datum}
use Rattle.muf_model.specs.declared.value.Value.{Value}
use Rattle.muf_model.specs.inner.Flat.{Flat}
use Rattle.muf_model.specs.inner.View.{view}
use Rattle.muf_frame.specs.inner.Moves.{scope_of}

-- the stack from the bottom, an item more
pub stack_more : (d n : ℕ) (xs : List Value) (x : Value) (ds after : List Datum) → n ≡ d + 1 → Some x ≡ slice_get xs d → ds ≡ reverse (drop n (map view xs)) → after ≡ ds ++ view x ∷ [] → after ≡ reverse (drop d (map view xs))
stack_more d n xs x ds after next found is more =
    let there : slice_get (map view xs) d ≡ Some (view x) = slice_get-map view xs d ∙ ap (option_map view) (sym found) in
    let first : drop d (map view xs) ≡ view x ∷ drop (d + 1) (map view xs) =
    drop_more (map view xs) d (view x) (slice_get_within (map view xs) d (view x) there) ∙ ap (λ y. y ∷ drop (d + 1) (map view xs)) (get_or_from_slice_get (map view xs) d (view x) (view x) there) in
    more ∙ ap (λ ys. ys ++ view x ∷ []) (is ∙ ap (λ k. reverse (drop k (map view xs))) next) ∙ sym (ap reverse first ∙ reverse-append (view x ∷ []) (drop (d + 1) (map view xs)))

pub stack_start : (n : ℕ) (xs : List Value) → n ≡ length xs → [] ≡ reverse (drop n (map view xs))
stack_start n xs e = sym (ap reverse (drop_all n (map view xs) (omega (arith, e, length-map xs view))))

-- a variable of the running call
called_at : (n : ℕ) (s : Scope) → 68 ≤ n → variable_at n s ≡ slice_get s.variables (n - 68)
called_at n s le = rw (le-ltb n 4 (omega (arith, le)), le-ltb n 68 le) refl

pub scope_more : (n : ℕ) (f : Flat) (d : Datum) (ds after : List Datum) → 68 ≤ n → ds ≡ take (n - 68) (drop f.base f.variables) → Some d ≡ variable_at n (scope_of 0 f) → after ≡ ds ++ d ∷ [] → after ≡ take (n + 1 - 68) (drop f.base f.variables)
scope_more n f d ds after le is found more =
    let xs : List Datum = drop f.base f.variables in
    let there : slice_get xs (n - 68) ≡ Some d = sym (found ∙ called_at n (scope_of 0 f) le) in
    let next : n + 1 - 68 ≡ (n - 68) + 1 = omega (arith, le) in
    more ∙ ap (λ ys. ys ++ d ∷ []) is ∙ sym (ap (λ k. take k xs) next ∙ take_more xs (n - 68) d (slice_get_within xs (n - 68) d there) ∙ ap (λ y. take (n - 68) xs ++ y ∷ []) (get_or_from_slice_get xs (n - 68) d d there))

-- no more of them
pub scope_whole : (n : ℕ) (f : Flat) (ds : List Datum) → 68 ≤ n → ds ≡ take (n - 68) (drop f.base f.variables) → None ≡ variable_at n (scope_of 0 f) → ds ≡ drop f.base f.variables
scope_whole n f ds le is found =
    is ∙ take_all (n - 68) (drop f.base f.variables) (none_past (drop f.base f.variables) (n - 68) (sym (found ∙ called_at n (scope_of 0 f) le)))
