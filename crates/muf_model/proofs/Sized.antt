-- Weight, nesting and rising keys of lists and dictionaries that are changed.
use Rattle.std.proofs.Common.{◌≡◌, ℕ, zero, suc, ◌+◌, ◌<◌, ◌≤◌, max, Bool, true, false, List, [], ◌∷◌, ◌++◌, length, map, take, get_or, set, refl, sym, ◌∙◌, ap, subst, arith, ◌-◌}
use Rattle.std.specs.Prelude.{nat_le, ◌&&◌, if◌then◌else◌, slice_get}
use Rattle.std.proofs.lemmas.List.{map-set, length-map, length-set}
use Rattle.std.specs.List.{insert}
use Rattle.muck_laws.proofs.Numbers.{beyond, both_within, fitting}
use Rattle.muck_laws.proofs.Places.{map_insert, mapped_read}
use Rattle.muf_model.specs.declared.size.Size.{Size}
use Rattle.muf_model.specs.declared.value.MapKey.{MapKey}
use Rattle.muf_model.specs.declared.value.Pair.{Pair}
use Rattle.muf_model.specs.Datum.{Datum, int, text, object, variable, address, lock, items, dict, mark, data_of, pairs_of, entries_of}
use Rattle.muf_model.specs.inner.View.{view, pair_view, value_view}
use Rattle.muf_model.specs.Measures.{weight, data_weight, pairs_weight, nesting, data_nesting, pairs_nesting, key_below}
use Rattle.muf_model.specs.Entries.{key_same, with_entry, entry_place, has_key, Rising}
use Rattle.muf_model.proofs.Entries.{rising, replaced, inserted}
use Rattle.muf_model.specs.Values.{value_fits, size_fits, KeysRise, RiseInData, RiseInPairs, IsValue, IsSized}

-- ---- what fits

pub sized : (d : Datum) (size : Size) → weight d ≡ 1 + size.weight → nesting d ≡ 1 + size.nesting → KeysRise d → size_fits size ≡ true → IsSized d size
sized d size w n r h =
    record { weighs = w; nests = n; is_value = record { fitting = fitting size.weight size.nesting _ _ w n ∙ h; rising = r } }

pub within : (d : Datum) (size : Size) → IsSized d size → (size.weight ≤ 65535) × (size.nesting ≤ 63)
within d size s =
    both_within size.weight size.nesting (sym (ap (λ a. nat_le a 65536 && nat_le (nesting d) 64) s.weighs ∙ ap (λ b. nat_le (1 + size.weight) 65536 && nat_le b 64) s.nests) ∙ s.is_value.fitting)

-- ---- one value more

pub weight_more : (i : ℕ) (ds : List Datum) (d : Datum) → data_weight (data_of (insert ds i d)) ≡ data_weight (data_of ds) + weight d
weight_more zero [] d = omega arith
weight_more zero (x ∷ ds) d = omega arith
weight_more (suc i) [] d = omega arith
weight_more (suc i) (x ∷ ds) d = omega (arith, weight_more i ds d)

pub nesting_more : (i : ℕ) (ds : List Datum) (d : Datum) → data_nesting (data_of (insert ds i d)) ≡ max (data_nesting (data_of ds)) (nesting d)
nesting_more zero [] d = omega arith
nesting_more zero (x ∷ ds) d = omega arith
nesting_more (suc i) [] d = omega arith
nesting_more (suc i) (x ∷ ds) d = omega (arith, nesting_more i ds d)

pub rise_more : (i : ℕ) (ds : List Datum) (d : Datum) → RiseInData (data_of ds) → KeysRise d → RiseInData (data_of (insert ds i d))
rise_more zero [] d r h = (h, tt)
rise_more zero (x ∷ ds) d r h = (h, r)
rise_more (suc i) [] d r h = (h, tt)
rise_more (suc i) (x ∷ ds) d r h = (r.0, rise_more i ds d r.1 h)

pub at_end : (ds : List Datum) (d : Datum) → ds ++ d ∷ [] ≡ insert ds (length ds) d
at_end [] d = refl
at_end (x ∷ ds) d = ap (λ xs. x ∷ xs) (at_end ds d)

-- ---- one value in place of another

pub weight_set : (i : ℕ) (ds : List Datum) (d was : Datum) → i < length ds → was ≡ get_or ds i was → data_weight (data_of (set ds i d)) + weight was ≡ data_weight (data_of ds) + weight d
weight_set i [] d was h e = absurd (omega arith)
weight_set zero (x ∷ ds) d was h e = rw e (omega arith)
weight_set (suc i) (x ∷ ds) d was h e = omega (arith, weight_set i ds d was (omega arith) e)

pub nesting_at_least : (i : ℕ) (ds : List Datum) (d : Datum) → i < length ds → nesting d ≤ data_nesting (data_of (set ds i d))
nesting_at_least i [] d h = absurd (omega arith)
nesting_at_least zero (x ∷ ds) d h = omega arith
nesting_at_least (suc i) (x ∷ ds) d h = omega (arith, nesting_at_least i ds d (omega arith))

pub nesting_at_most : (i : ℕ) (ds : List Datum) (d : Datum) → data_nesting (data_of (set ds i d)) ≤ max (data_nesting (data_of ds)) (nesting d)
nesting_at_most i [] d = omega arith
nesting_at_most zero (x ∷ ds) d = omega arith
nesting_at_most (suc i) (x ∷ ds) d = omega (arith, nesting_at_most i ds d)

pub nesting_kept : (i : ℕ) (ds : List Datum) (d was : Datum) → i < length ds → was ≡ get_or ds i was → data_nesting (data_of ds) ≤ max (nesting was) (data_nesting (data_of (set ds i d)))
nesting_kept i [] d was h e = absurd (omega arith)
nesting_kept zero (x ∷ ds) d was h e = rw e (omega arith)
nesting_kept (suc i) (x ∷ ds) d was h e = omega (arith, nesting_kept i ds d was (omega arith) e)

pub rise_set : (i : ℕ) (ds : List Datum) (d : Datum) → RiseInData (data_of ds) → KeysRise d → RiseInData (data_of (set ds i d))
rise_set i [] d r h = tt
rise_set zero (x ∷ ds) d r h = (h, r.1)
rise_set (suc i) (x ∷ ds) d r h = (r.0, rise_set i ds d r.1 h)

-- ---- a list, value by value

pub weight_part : (i : ℕ) (ds : List Datum) (d : Datum) → i < length ds → d ≡ get_or ds i d → data_weight (data_of (take (i + 1) ds)) ≡ data_weight (data_of (take i ds)) + weight d
weight_part i [] d h e = absurd (omega arith)
weight_part zero (x ∷ ds) d h e = rw e (omega arith)
weight_part (suc i) (x ∷ ds) d h e = let k : suc i + 1 ≡ suc (i + 1) = omega arith in rw k (omega (arith, weight_part i ds d (omega arith) e))

pub nesting_part : (i : ℕ) (ds : List Datum) (d : Datum) → i < length ds → d ≡ get_or ds i d → data_nesting (data_of (take (i + 1) ds)) ≡ max (data_nesting (data_of (take i ds))) (nesting d)
nesting_part i [] d h e = absurd (omega arith)
nesting_part zero (x ∷ ds) d h e = rw e (omega arith)
nesting_part (suc i) (x ∷ ds) d h e = let k : suc i + 1 ≡ suc (i + 1) = omega arith in rw k (omega (arith, nesting_part i ds d (omega arith) e))

-- with one value more of a list that is mapped, and of which one is another
pub nesting_step : {A : Type 0} → (f : A → Datum) (xs : List A) (i at : ℕ) (y d : Datum) → i < length xs → d ≡ get_or (set (map f xs) at y) i d → data_nesting (data_of (take (i + 1) (set (map f xs) at y))) ≡ max (data_nesting (data_of (take i (set (map f xs) at y)))) (nesting d)
nesting_step f xs i at y d h e = nesting_part i (set (map f xs) at y) d (omega (arith, h, length-set (map f xs) at y, length-map xs f)) e

weight_one : (i : ℕ) (ds : List Datum) (was : Datum) → i < length ds → was ≡ get_or ds i was → weight was ≤ data_weight (data_of ds)
weight_one i [] was h e = absurd (omega arith)
weight_one zero (x ∷ ds) was h e = rw e (omega arith)
weight_one (suc i) (x ∷ ds) was h e = omega (arith, weight_one i ds was (omega arith) e)

pub weight_within : {A : Type 0} → (f : A → Datum) (xs : List A) (at : ℕ) (x : A) (w all : ℕ) → at < length xs → x ≡ get_or xs at x → w ≡ weight (f x) → all ≡ data_weight (data_of (map f xs)) → w ≤ all
weight_within f xs at x w all h e i a = omega (arith, i, a, weight_one at (map f xs) (f x) (omega (arith, h, length-map xs f)) (mapped_read f at xs x e))

pub weight_with : {A : Type 0} → (f : A → Datum) (xs : List A) (at : ℕ) (y : Datum) (x : A) (w v all : ℕ) → at < length xs → x ≡ get_or xs at x → w ≡ weight (f x) → v ≡ weight y → all ≡ data_weight (data_of (map f xs)) → all - w + v ≡ data_weight (data_of (set (map f xs) at y))
weight_with f xs at y x w v all h e i j a =
    let l : at < length (map f xs) = omega (arith, h, length-map xs f) in
    omega (arith, i, j, a, weight_set at (map f xs) y (f x) l (mapped_read f at xs x e), weight_one at (map f xs) (f x) l (mapped_read f at xs x e))

pub deepest_new : {A : Type 0} → (f : A → Datum) (xs : List A) (at : ℕ) (y : Datum) (n deepest : ℕ) → at < length xs → n ≡ nesting y → deepest ≡ data_nesting (data_of (map f xs)) → deepest ≤ n → n ≡ data_nesting (data_of (set (map f xs) at y))
deepest_new f xs at y n deepest h i e l =
    omega (arith, i, e, l, nesting_at_least at (map f xs) y (omega (arith, h, length-map xs f)), nesting_at_most at (map f xs) y)

pub deepest_kept : {A : Type 0} → (f : A → Datum) (xs : List A) (at : ℕ) (y : Datum) (x : A) (n m deepest : ℕ) → at < length xs → x ≡ get_or xs at x → n ≡ nesting y → m ≡ nesting (f x) → deepest ≡ data_nesting (data_of (map f xs)) → n < deepest → m < deepest → deepest ≡ data_nesting (data_of (set (map f xs) at y))
deepest_kept f xs at y x n m deepest h e i j k l o =
    omega (arith, i, j, k, l, o, nesting_at_most at (map f xs) y, nesting_kept at (map f xs) y (f x) (omega (arith, h, length-map xs f)) (mapped_read f at xs x e))

weighs_one : (d : Datum) → 1 ≤ weight d
weighs_one (int n) = omega arith
weighs_one (text t) = omega arith
weighs_one (object n) = omega arith
weighs_one (variable v) = omega arith
weighs_one (address program word) = omega arith
weighs_one (lock l) = omega arith
weighs_one (items ds) = omega arith
weighs_one (dict ps) = omega arith
weighs_one mark = omega arith

length_weight : (ds : List Datum) → length ds ≤ data_weight (data_of ds)
length_weight [] = omega arith
length_weight (d ∷ ds) = omega (arith, weighs_one d, length_weight ds)

pub most_values : (ds : List Datum) (size : Size) → IsSized (items (data_of ds)) size → length ds ≤ 65535
most_values ds size s = omega (arith, length_weight ds, s.weighs, (within (items (data_of ds)) size s).0)

-- the weight of a list isn't below that of its front
part_weight : (i : ℕ) (ds : List Datum) → data_weight (data_of (take i ds)) ≤ data_weight (data_of ds)
part_weight zero ds = omega arith
part_weight (suc i) [] = omega arith
part_weight (suc i) (d ∷ ds) = omega (arith, part_weight i ds)

part_nesting : (i : ℕ) (ds : List Datum) → data_nesting (data_of (take i ds)) ≤ data_nesting (data_of ds)
part_nesting zero ds = omega arith
part_nesting (suc i) [] = omega arith
part_nesting (suc i) (d ∷ ds) = omega (arith, part_nesting i ds)

-- the front of a list with one value more
pub part_fits : (i : ℕ) (ds : List Datum) (d : Datum) (s t : Size) → i < length ds → d ≡ get_or ds i d → IsSized (items (data_of (take i ds))) s → IsValue d → t.weight ≡ s.weight + weight d → t.nesting ≡ max s.nesting (nesting d) → size_fits t ≡ true →
    IsSized (items (data_of (take (i + 1) ds))) t
part_fits i ds d s t h e z v w n f =
    sized (items (data_of (take (i + 1) ds))) t (omega (arith, weight_part i ds d h e, z.weighs, w)) (omega (arith, nesting_part i ds d h e, z.nests, n)) (rise_part i ds d h e z.is_value.rising v.rising) f where
      rise_part : (i : ℕ) (ds : List Datum) (d : Datum) → i < length ds → d ≡ get_or ds i d → RiseInData (data_of (take i ds)) → KeysRise d → RiseInData (data_of (take (i + 1) ds))
      rise_part i [] d h e r k = absurd (omega arith)
      rise_part zero (x ∷ ds) d h e r k = rw (← e) (k, tt)
      rise_part (suc i) (x ∷ ds) d h e r k = let j : suc i + 1 ≡ suc (i + 1) = omega arith in rw j (r.0, rise_part i ds d (omega arith) e r.1 k)

pub part_unfit : (i : ℕ) (ds : List Datum) (d : Datum) (s t : Size) → i < length ds → d ≡ get_or ds i d → IsSized (items (data_of (take i ds))) s → t.weight ≡ s.weight + weight d → t.nesting ≡ max s.nesting (nesting d) → size_fits t ≡ false →
    value_fits (items (data_of ds)) ≡ false
part_unfit i ds d s t h e z w n f =
    beyond (data_weight (data_of ds)) (data_nesting (data_of ds)) t.weight t.nesting (omega (arith, part_weight (i + 1) ds, weight_part i ds d h e, z.weighs, w)) (omega (arith, part_nesting (i + 1) ds, nesting_part i ds d h e, z.nests, n)) f

-- ---- a list with one value more

pub weight_pushed : (ds : List Datum) (d : Datum) → data_weight (data_of (ds ++ d ∷ [])) ≡ data_weight (data_of ds) + weight d
weight_pushed ds d = rw (at_end ds d) (weight_more (length ds) ds d)

pub nesting_pushed : (ds : List Datum) (d : Datum) → data_nesting (data_of (ds ++ d ∷ [])) ≡ max (data_nesting (data_of ds)) (nesting d)
nesting_pushed ds d = rw (at_end ds d) (nesting_more (length ds) ds d)

pub pushed_fits : (ds : List Datum) (d : Datum) (s t : Size) → IsSized (items (data_of ds)) s → IsValue d → t.weight ≡ data_weight (data_of (ds ++ d ∷ [])) → t.nesting ≡ data_nesting (data_of (ds ++ d ∷ [])) → size_fits t ≡ true →
    IsSized (items (data_of (ds ++ d ∷ []))) t
pushed_fits ds d s t h v w n f =
    sized (items (data_of (ds ++ d ∷ []))) t (omega (arith, w)) (omega (arith, n)) (rw (at_end ds d) (rise_more (length ds) ds d h.is_value.rising v.rising)) f

-- ---- a list with another value at a place

pub set_fits : (i : ℕ) (ds : List Datum) (d : Datum) (s t : Size) → IsSized (items (data_of ds)) s → IsValue d → t.weight ≡ data_weight (data_of (set ds i d)) → t.nesting ≡ data_nesting (data_of (set ds i d)) → size_fits t ≡ true →
    IsSized (items (data_of (set ds i d))) t
set_fits i ds d s t h v w n f =
    sized (items (data_of (set ds i d))) t (omega (arith, w)) (omega (arith, n)) (rise_set i ds d h.is_value.rising v.rising) f

-- ---- dictionaries

pub dict_weight : (ps : List Pair) → pairs_weight (pairs_of (map pair_view ps)) ≡ data_weight (data_of (map value_view ps))
dict_weight [] = refl
dict_weight (p ∷ ps) = ap (λ w. weight (view p.value) + w) (dict_weight ps)

pub dict_nesting : (ps : List Pair) → pairs_nesting (pairs_of (map pair_view ps)) ≡ data_nesting (data_of (map value_view ps))
dict_nesting [] = refl
dict_nesting (p ∷ ps) = ap (λ n. max (nesting (view p.value)) n) (dict_nesting ps)

pub most_pairs : (es : List (MapKey × Datum)) (size : Size) → IsSized (dict (pairs_of es)) size → length es ≤ 65535
most_pairs es size s = omega (arith, pairs_length es, s.weighs, (within (dict (pairs_of es)) size s).0) where
  pairs_length : (es : List (MapKey × Datum)) → length es ≤ pairs_weight (pairs_of es)
  pairs_length [] = omega arith
  pairs_length (e ∷ es) = omega (arith, weighs_one e.1, pairs_length es)

pub entries_again : (es : List (MapKey × Datum)) → entries_of (pairs_of es) ≡ es
entries_again [] = refl
entries_again (e ∷ es) = ap (λ xs. e ∷ xs) (entries_again es)

rise_cases : (k l : MapKey) (x y : Datum) (es : List (MapKey × Datum)) (b c : Bool) → KeysRise x → KeysRise y → RiseInPairs (pairs_of es) → RiseInPairs (pairs_of (with_entry k x es)) → RiseInPairs (pairs_of (if b then (k, x) ∷ es else (if c then (k, x) ∷ (l, y) ∷ es else (l, y) ∷ with_entry k x es)))
rise_cases k l x y es true c h i r s = (h, r)
rise_cases k l x y es false true h i r s = (h, (i, r))
rise_cases k l x y es false false h i r s = (i, s)

rise_entry : (k : MapKey) (x : Datum) (es : List (MapKey × Datum)) → RiseInPairs (pairs_of es) → KeysRise x → RiseInPairs (pairs_of (with_entry k x es))
rise_entry k x [] r h = (h, tt)
rise_entry k x ((l, y) ∷ es) r h = rise_cases k l x y es (key_same k l) (key_below k l) h r.0 r.1 (rise_entry k x es r.1 h)

pub entry_fits : (k : MapKey) (x : Datum) (es : List (MapKey × Datum)) (s t : Size) → IsSized (dict (pairs_of es)) s → IsValue x → t.weight ≡ pairs_weight (pairs_of (with_entry k x es)) → t.nesting ≡ pairs_nesting (pairs_of (with_entry k x es)) → size_fits t ≡ true →
    IsSized (dict (pairs_of (with_entry k x es))) t
entry_fits k x es s t h v w n f =
    let r : Rising es = subst Rising (entries_again es) h.is_value.rising.0 in
    let q : Rising (entries_of (pairs_of (with_entry k x es))) = subst Rising (sym (entries_again (with_entry k x es))) (rising k x es r) in
    sized (dict (pairs_of (with_entry k x es))) t (omega (arith, w)) (omega (arith, n)) (q, rise_entry k x es h.is_value.rising.1 v.rising) f

-- the weight and nesting of a dictionary by those of its values

pairs_weigh : (es : List (MapKey × Datum)) → pairs_weight (pairs_of es) ≡ data_weight (data_of (map (λ e. e.1) es))
pairs_weigh [] = refl
pairs_weigh (e ∷ es) = ap (λ w. weight e.1 + w) (pairs_weigh es)

pairs_nest : (es : List (MapKey × Datum)) → pairs_nesting (pairs_of es) ≡ data_nesting (data_of (map (λ e. e.1) es))
pairs_nest [] = refl
pairs_nest (e ∷ es) = ap (λ n. max (nesting e.1) n) (pairs_nest es)

values_same : (ps : List Pair) → map (λ e. e.1) (map pair_view ps) ≡ map value_view ps
values_same [] = refl
values_same (p ∷ ps) = ap (λ ds. view p.value ∷ ds) (values_same ps)

values_there : (k : MapKey) (x : Datum) (ps : List Pair) (at : ℕ) → at ≡ entry_place k (map pair_view ps) → has_key k (slice_get (map pair_view ps) at) ≡ true → map (λ e. e.1) (with_entry k x (map pair_view ps)) ≡ set (map value_view ps) at x
values_there k x ps at e h =
    ap (map (λ e. e.1)) (sym (replaced k x (map pair_view ps) (ap (λ j. has_key k (slice_get (map pair_view ps) j)) (sym e) ∙ h)))
    ∙ map-set (λ e. e.1) (map pair_view ps) (entry_place k (map pair_view ps)) (k, x)
    ∙ ap (λ ds. set ds (entry_place k (map pair_view ps)) x) (values_same ps)
    ∙ ap (λ j. set (map value_view ps) j x) (sym e)

values_new : (k : MapKey) (x : Datum) (ps : List Pair) (at : ℕ) → at ≡ entry_place k (map pair_view ps) → has_key k (slice_get (map pair_view ps) at) ≡ false → map (λ e. e.1) (with_entry k x (map pair_view ps)) ≡ insert (map value_view ps) at x
values_new k x ps at e h =
    ap (map (λ e. e.1)) (sym (inserted k x (map pair_view ps) (ap (λ j. has_key k (slice_get (map pair_view ps) j)) (sym e) ∙ h)))
    ∙ map_insert (λ e. e.1) (map pair_view ps) (entry_place k (map pair_view ps)) (k, x)
    ∙ ap (λ ds. insert ds (entry_place k (map pair_view ps)) x) (values_same ps)
    ∙ ap (λ j. insert (map value_view ps) j x) (sym e)

pub weight_there : (k : MapKey) (x : Datum) (ps : List Pair) (at : ℕ) → at ≡ entry_place k (map pair_view ps) → has_key k (slice_get (map pair_view ps) at) ≡ true → pairs_weight (pairs_of (with_entry k x (map pair_view ps))) ≡ data_weight (data_of (set (map value_view ps) at x))
weight_there k x ps at e h = pairs_weigh (with_entry k x (map pair_view ps)) ∙ ap (λ ds. data_weight (data_of ds)) (values_there k x ps at e h)

pub nesting_there : (k : MapKey) (x : Datum) (ps : List Pair) (at : ℕ) → at ≡ entry_place k (map pair_view ps) → has_key k (slice_get (map pair_view ps) at) ≡ true → pairs_nesting (pairs_of (with_entry k x (map pair_view ps))) ≡ data_nesting (data_of (set (map value_view ps) at x))
nesting_there k x ps at e h = pairs_nest (with_entry k x (map pair_view ps)) ∙ ap (λ ds. data_nesting (data_of ds)) (values_there k x ps at e h)

pub weight_new : (k : MapKey) (x : Datum) (ps : List Pair) (at : ℕ) → at ≡ entry_place k (map pair_view ps) → has_key k (slice_get (map pair_view ps) at) ≡ false → pairs_weight (pairs_of (with_entry k x (map pair_view ps))) ≡ pairs_weight (pairs_of (map pair_view ps)) + weight x
weight_new k x ps at e h =
    pairs_weigh (with_entry k x (map pair_view ps)) ∙ ap (λ ds. data_weight (data_of ds)) (values_new k x ps at e h) ∙ weight_more at (map value_view ps) x ∙ ap (λ w. w + weight x) (sym (dict_weight ps))

pub nesting_new : (k : MapKey) (x : Datum) (ps : List Pair) (at : ℕ) → at ≡ entry_place k (map pair_view ps) → has_key k (slice_get (map pair_view ps) at) ≡ false → pairs_nesting (pairs_of (with_entry k x (map pair_view ps))) ≡ max (pairs_nesting (pairs_of (map pair_view ps))) (nesting x)
nesting_new k x ps at e h =
    pairs_nest (with_entry k x (map pair_view ps)) ∙ ap (λ ds. data_nesting (data_of ds)) (values_new k x ps at e h) ∙ nesting_more at (map value_view ps) x ∙ ap (λ n. max n (nesting x)) (sym (dict_nesting ps))
