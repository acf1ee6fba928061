-- What is left of a collection behind so many turns.
use Rattle.std.proofs.Common.{◌≡◌, ℕ, zero, suc, ◌+◌, List, [], ◌∷◌, drop, map, Some, None, refl, ap, ◌∙◌, arith}
use Rattle.std.specs.Prelude.{slice_get, pos}
use Rattle.muf_model.specs.declared.value.Value.{Value}
use Rattle.muf_model.specs.declared.value.Pair.{Pair}
use Rattle.muf_model.specs.declared.value.MapKey.{MapKey}
use Rattle.muf_model.specs.Datum.{Datum, int, data_of, pairs_of}
use Rattle.muf_model.specs.inner.View.{view, pair_view}
use Rattle.muf_model.specs.Source.{pairs}
use Rattle.muf_model.specs.Entries.{key_datum}
use Rattle.muf_model.specs.Unit.{values_numbered, keyed}
use Rattle.muf_model.specs.inner.Flat.{FlatMark, loop, Flat}
use Rattle.muf_run.specs.inner.Machine as machine
use Rattle.muf_run.specs.inner.Keys.{pull, turn_with}

pub values_end : (xs : List Value) (n at : ℕ) → slice_get xs at ≡ None → drop at (values_numbered n (data_of (map view xs))) ≡ []
values_end [] n zero e = refl
values_end [] n (suc at) e = refl
values_end (x ∷ xs) n zero e = cc
values_end (x ∷ xs) n (suc at) e = values_end xs (suc n) at e

pub values_next : (xs : List Value) (n at : ℕ) (x : Value) → slice_get xs at ≡ Some x → drop at (values_numbered n (data_of (map view xs))) ≡ (int (pos (n + at)), view x) ∷ drop (at + 1) (values_numbered n (data_of (map view xs)))
values_next [] n zero x e = cc
values_next [] n (suc at) x e = cc
values_next (y ∷ xs) n zero x e =
    let k : n + 0 ≡ n = omega arith in
    let v : y ≡ x = cc in
    rw (k, v) refl
values_next (y ∷ xs) n (suc at) x e =
    let k : n + suc at ≡ suc n + at = omega arith in
    let j : suc at + 1 ≡ suc (at + 1) = omega arith in
    rw (k, j) (values_next xs (suc n) at x e)

pub entries_end : (xs : List Pair) (at : ℕ) → slice_get xs at ≡ None → drop at (keyed (pairs_of (map pair_view xs))) ≡ []
entries_end [] zero e = refl
entries_end [] (suc at) e = refl
entries_end (x ∷ xs) zero e = cc
entries_end (x ∷ xs) (suc at) e = entries_end xs at e

pub entries_next : (xs : List Pair) (at : ℕ) (x : Pair) → slice_get xs at ≡ Some x → drop at (keyed (pairs_of (map pair_view xs))) ≡ (key_datum (pair_view x).0, (pair_view x).1) ∷ drop (at + 1) (keyed (pairs_of (map pair_view xs)))
entries_next [] zero x e = cc
entries_next [] (suc at) x e = cc
entries_next (y ∷ xs) zero x e =
    let v : y ≡ x = cc in
    rw v refl
entries_next (y ∷ xs) (suc at) x e =
    let j : suc at + 1 ≡ suc (at + 1) = omega arith in
    rw j (entries_next xs at x e)

-- the test of the keys takes the first pair that is left
pub pair_turn : (left : List (Datum × Datum)) (again after : ℕ) (s : Flat) (ms : List FlatMark) → machine.pair_test s (loop (pairs left) again after ∷ ms) ≡ turn_with (pull left) again after (record s { marks = ms })
pair_turn [] again after s ms = refl
pair_turn (p ∷ left) again after s ms = refl

-- the same by the data of the collection
pub no_value : (xs : List Value) (ds : List Datum) (at : ℕ) → map view xs ≡ ds → slice_get xs at ≡ None → pull (drop at (values_numbered 0 (data_of ds))) ≡ None
no_value xs ds at e n = rw (← e) (ap pull (values_end xs 0 at n))

pub a_value : (xs : List Value) (ds : List Datum) (at : ℕ) (x : Value) → map view xs ≡ ds → slice_get xs at ≡ Some x → pull (drop at (values_numbered 0 (data_of ds))) ≡ Some ((int (pos at), view x), pairs (drop (at + 1) (values_numbered 0 (data_of ds))))
a_value xs ds at x e n =
    let k : 0 + at ≡ at = omega arith in
    rw (← e) (ap pull (values_next xs 0 at x n) ∙ ap (λ i. Some ((int (pos i), view x), pairs (drop (at + 1) (values_numbered 0 (data_of (map view xs)))))) k)

pub no_entry : (xs : List Pair) (ds : List (MapKey × Datum)) (at : ℕ) → map pair_view xs ≡ ds → slice_get xs at ≡ None → pull (drop at (keyed (pairs_of ds))) ≡ None
no_entry xs ds at e n = rw (← e) (ap pull (entries_end xs at n))

pub an_entry : (xs : List Pair) (ds : List (MapKey × Datum)) (at : ℕ) (x : Pair) → map pair_view xs ≡ ds → slice_get xs at ≡ Some x → pull (drop at (keyed (pairs_of ds))) ≡ Some ((key_datum (pair_view x).0, (pair_view x).1), pairs (drop (at + 1) (keyed (pairs_of ds))))
an_entry xs ds at x e n = rw (← e) (ap pull (entries_next xs at x n))
