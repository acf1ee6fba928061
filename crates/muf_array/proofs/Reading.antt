-- The entries of lists and dictionaries, by their places.
use Rattle.std.proofs.Common.{◌≡◌, ◌∙◌, ap, sym, refl, ℕ, zero, suc, ◌+◌, ◌-◌, ◌<◌, ◌≤◌, List, [], ◌∷◌, ◌++◌, length, map, drop, Some, None, arith, inl, inr}
use Rattle.std.specs.Prelude.{Option, slice_get, option_map, ℤ, pos, negsuc, nat_lt, int_lt, int_le, if◌then◌else◌, Bool, true, false}
use Rattle.std.proofs.lemmas.Bool.{cases_lt}
use Rattle.std.proofs.lemmas.Bool.Decides.{nat_tests, Decides-int_eq}
use Rattle.std.specs.Ordering.{int_eq}
use Rattle.std.proofs.lemmas.List.{length-map}
use Rattle.std.proofs.lemmas.Option.{slice_get-map, slice_get_past}
use Rattle.std.specs.Option.{option_and_then}
use Rattle.muck_laws.proofs.Parts.{drop_whole}
use Rattle.muf_model.specs.declared.value.MapKey.{MapKey}
use Rattle.muf_model.specs.declared.value.MapKey.TheVariants.{Number, Name}
use Rattle.muf_model.specs.declared.value.Pair.{Pair}
use Rattle.muf_model.specs.Datum.{Datum, int, data_of, pairs_of, entries_of, data_list}
use Rattle.muf_model.specs.inner.View.{view, pair_view, value_view}
use Rattle.muf_model.specs.Entries.{key_datum, key_same, value_of_key, entries_above}
use Rattle.muf_model.specs.ArrayRows.{values_keyed, spread, first_key}
use Rattle.muf_model.specs.Answer.{makes}
use Rattle.muf_model.proofs.Sized.{entries_again}
use Rattle.muf_array.specs.inner.Shapes.{listed, index_in}

pub placed_length : (n : ℕ) (ds : List Datum) → length (values_keyed n (data_of ds)) ≡ length ds
placed_length n [] = refl
placed_length n (d ∷ ds) = ap suc (placed_length (suc n) ds)

pub placed_values : (n : ℕ) (ds : List Datum) → map (λ e. e.1) (values_keyed n (data_of ds)) ≡ ds
placed_values n [] = refl
placed_values n (d ∷ ds) = ap (λ r. d ∷ r) (placed_values (suc n) ds)

placed_key : (n : ℕ) (ds : List Datum) (i : ℕ) → i < length ds → slice_get (map (λ e. key_datum e.0) (values_keyed n (data_of ds))) i ≡ Some (int (pos (n + i)))
placed_key n [] i h = absurd (omega (arith, h))
placed_key n (d ∷ ds) zero h = let e : n + 0 ≡ n = omega arith in ap (λ k. Some (int (pos k))) (sym e)
placed_key n (d ∷ ds) (suc i) h = let e : suc n + i ≡ n + suc i = omega arith in placed_key (suc n) ds i (omega (arith, h)) ∙ ap (λ k. Some (int (pos k))) e

pub list_key : (ds : List Datum) (i : ℕ) → i < length ds → slice_get (map (λ e. key_datum e.0) (values_keyed 0 (data_of ds))) i ≡ Some (int (pos i))
list_key ds i h = let e : 0 + i ≡ i = omega arith in placed_key 0 ds i h ∙ ap (λ k. Some (int (pos k))) e

pub dict_values : (ps : List Pair) → map (λ e. e.1) (map pair_view ps) ≡ map value_view ps
dict_values [] = refl
dict_values (p ∷ ps) = ap (λ r. view p.value ∷ r) (dict_values ps)

pub dict_keys : (ps : List Pair) → map (λ e. key_datum e.0) (map pair_view ps) ≡ map (λ (p : Pair). key_datum p.key) ps
dict_keys [] = refl
dict_keys (p ∷ ps) = ap (λ r. key_datum p.key ∷ r) (dict_keys ps)

pub list_again : (ds : List Datum) → data_list (data_of ds) ≡ ds
list_again [] = refl
list_again (d ∷ ds) = ap (λ r. d ∷ r) (list_again ds)

pub ruleset entry_steps = (placed_length, placed_values, list_key, entries_again, dict_values, dict_keys, length-map, slice_get-map)

pub is_there : (es : List (MapKey × Datum)) (at : ℕ) → at < length es → slice_get (map (λ e. e.1) es) at ≡ None → ⊥
is_there [] at h g = omega (arith, h)
is_there (e ∷ es) zero h g = let no : Some e.1 ≡ None = g in cc
is_there (e ∷ es) (suc at) h g = is_there es at (omega (arith, h)) g

-- a pair at a place of a dictionary
pub dict_value_at : (ps : List Pair) (es : List (MapKey × Datum)) (at : ℕ) (o : Option Pair) → map pair_view ps ≡ es → slice_get ps at ≡ o → option_map value_view o ≡ slice_get (map (λ e. e.1) (entries_of (pairs_of es))) at
dict_value_at ps es at o e g =
    sym (ap (λ l. slice_get (map (λ e. e.1) l) at) (entries_again es ∙ sym e)
    ∙ ap (λ l. slice_get l at) (dict_values ps)
    ∙ slice_get-map value_view ps at
    ∙ ap (option_map value_view) g)

pub dict_key_at : (ps : List Pair) (es : List (MapKey × Datum)) (at : ℕ) (p : Pair) (d : Datum) → map pair_view ps ≡ es → slice_get ps at ≡ Some p → d ≡ key_datum p.key → slice_get (map (λ e. key_datum e.0) (entries_of (pairs_of es))) at ≡ Some d
dict_key_at ps es at p d e g h =
    ap (λ l. slice_get (map (λ e. key_datum e.0) l) at) (entries_again es ∙ sym e)
    ∙ ap (λ l. slice_get l at) (dict_keys ps)
    ∙ slice_get-map (λ (q : Pair). key_datum q.key) ps at
    ∙ ap (option_map (λ (q : Pair). key_datum q.key)) g
    ∙ ap Some (sym h)

-- ---- greater keys

none_above : (t : List ℕ) (n : ℕ) (ds : List Datum) → entries_above (Name t) (values_keyed n (data_of ds)) ≡ []
none_above t n [] = refl
none_above t n (d ∷ ds) = none_above t (suc n) ds

pub above_name : (t : List ℕ) (ds : List Datum) → drop (length ds) (listed ds) ≡ entries_above (Name t) (listed ds)
above_name t ds = drop_whole (listed ds) (length ds) (omega (arith, placed_length 0 ds)) ∙ sym (none_above t 0 ds)

pub above_negative : (n : ℕ) (ds : List Datum) → listed ds ≡ entries_above (Number (negsuc n)) (listed ds)
above_negative n [] = refl
above_negative n (d ∷ ds) = refl

above_cases : (b : Bool) (k m : ℕ) (d : Datum) (ds : List Datum) → nat_lt k m ≡ b → (m ≤ k → drop (k + 1 - suc m) (values_keyed (suc m) (data_of ds)) ≡ entries_above (Number (pos k)) (values_keyed (suc m) (data_of ds))) → drop (k + 1 - m) (values_keyed m (data_of (d ∷ ds))) ≡ (if b then values_keyed m (data_of (d ∷ ds)) else entries_above (Number (pos k)) (values_keyed (suc m) (data_of ds)))
above_cases true k m d ds e h = let l : k < m = grind (arith, nat_tests, e) in let z : k + 1 - m ≡ 0 = omega (arith, l) in rw z refl
above_cases false k m d ds e h = let l : m ≤ k = grind (arith, nat_tests, e) in let z : k + 1 - m ≡ suc (k + 1 - suc m) = omega (arith, l) in rw z (h l)

placed_above : (k m : ℕ) (ds : List Datum) → drop (k + 1 - m) (values_keyed m (data_of ds)) ≡ entries_above (Number (pos k)) (values_keyed m (data_of ds))
placed_above k m [] = drop_whole [] (k + 1 - m) (omega arith)
placed_above k m (d ∷ ds) = above_cases (nat_lt k m) k m d ds refl (λ l. placed_above k (suc m) ds)

pub above_number : (k : ℕ) (ds : List Datum) → drop (k + 1) (listed ds) ≡ entries_above (Number (pos k)) (listed ds)
above_number k ds = let z : k + 1 - 0 ≡ k + 1 = omega arith in ap (λ n. drop n (listed ds)) (sym z) ∙ placed_above k 0 ds

pub ruleset above_steps = (above_name, above_negative, above_number)

-- ---- the value of a key in a list

got_cases : (b : Bool) (k m : ℕ) (d : Datum) (ds : List Datum) → int_eq (pos k) (pos m) ≡ b → m ≤ k → (suc m ≤ k → value_of_key (Number (pos k)) (values_keyed (suc m) (data_of ds)) ≡ slice_get ds (k - suc m)) → (if b then Some d else value_of_key (Number (pos k)) (values_keyed (suc m) (data_of ds))) ≡ slice_get (d ∷ ds) (k - m)
got_cases true k m d ds e l h = let same : pos k ≡ pos m = (Decides-int_eq (pos k) (pos m)).0 e in let q : k ≡ m = cc in let z : k - m ≡ 0 = omega (arith, q) in rw z refl
got_cases false k m d ds e l h =
    elim (cases_lt m k) [
      | inl below ↦ (let z : k - m ≡ suc (k - suc m) = omega (arith, below) in rw z (h below))
      | inr le ↦ absurd (let q : k ≡ m = omega (arith, l, le) in let same : int_eq (pos k) (pos m) ≡ true = (Decides-int_eq (pos k) (pos m)).1 (ap pos q) in let no : false ≡ true = sym e ∙ same in cc)
    ]

got_placed : (k m : ℕ) (ds : List Datum) → m ≤ k → value_of_key (Number (pos k)) (values_keyed m (data_of ds)) ≡ slice_get ds (k - m)
got_placed k m [] l = refl
got_placed k m (d ∷ ds) l = got_cases (int_eq (pos k) (pos m)) k m d ds refl l (λ h. got_placed k (suc m) ds h)

got_number : (k : ℕ) (ds : List Datum) → value_of_key (Number (pos k)) (listed ds) ≡ slice_get ds k
got_number k ds = let z : k - 0 ≡ k = omega arith in got_placed k 0 ds (omega arith) ∙ ap (slice_get ds) z

got_below : (n m : ℕ) (ds : List Datum) → value_of_key (Number (negsuc n)) (values_keyed m (data_of ds)) ≡ None
got_below n m [] = refl
got_below n m (d ∷ ds) = got_below n (suc m) ds

got_index : (b : Bool) (k : ℕ) (ds : List Datum) → nat_lt k (length ds) ≡ b → slice_get ds k ≡ option_and_then (slice_get ds) (if b then Some k else None)
got_index true k ds e = refl
got_index false k ds e = slice_get_past ds k (grind (arith, nat_tests, e))

pub got_item : (z : ℤ) (ds : List Datum) → value_of_key (Number z) (listed ds) ≡ option_and_then (slice_get ds) (index_in z ds)
got_item (pos k) ds = got_number k ds ∙ got_index (nat_lt k (length ds)) k ds refl
got_item (negsuc n) ds = got_below n 0 ds

pub ruleset got_steps = (got_item)

pub ruleset row_steps = (placed_length, entries_again, length-map)

pub first_at : (es : List (MapKey × Datum)) (at : ℕ) (k : Datum) → slice_get (map (λ e. key_datum e.0) es) at ≡ Some k → first_key (drop at es) ≡ makes (int (pos 1) ∷ k ∷ [])
first_at [] at k g = absurd (let no : None ≡ Some k = g in cc)
first_at (e ∷ es) zero k g = let q : key_datum e.0 ≡ k = cc in ap (λ d. makes (int (pos 1) ∷ d ∷ [])) q
first_at (e ∷ es) (suc at) k g = first_at es at k g

-- ---- parts of entries, from the last to the first

-- and one entry
pub spread_more : (es : List (MapKey × Datum)) (at : ℕ) (v k : Datum) → slice_get (map (λ e. e.1) es) at ≡ Some v → slice_get (map (λ e. key_datum e.0) es) at ≡ Some k → spread (drop at es) ≡ spread (drop (at + 1) es) ++ v ∷ k ∷ []
spread_more [] at v k e f = absurd (let no : None ≡ Some v = e in cc)
spread_more ((l, y) ∷ es) zero v k e f = let q : y ≡ v = cc in let r : key_datum l ≡ k = cc in rw (q, r) refl
spread_more ((l, y) ∷ es) (suc at) v k e f = let z : suc at + 1 ≡ suc (at + 1) = omega arith in rw z (spread_more es at v k e f)
