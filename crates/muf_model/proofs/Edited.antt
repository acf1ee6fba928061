-- Values that come between others or go, and the places of keys.
use Rattle.std.proofs.Common.{◌≡◌, ℕ, zero, suc, ◌+◌, ◌<◌, ◌≤◌, max, Bool, true, false, List, [], ◌∷◌, ◌++◌, length, map, drop, set, get_or, Some, None, refl, sym, ◌∙◌, ap, subst, arith, rules}
use Rattle.std.specs.Prelude.{if◌then◌else◌, slice_get, int_lt}
use Rattle.std.specs.List.{insert, remove}
use Rattle.std.specs.Ordering.{nat_cmp, is_lt}
use Rattle.std.proofs.lemmas.Int.{ints}
use Rattle.std.proofs.lemmas.List.{length-map}
use Rattle.std.specs.Cmp.Lexicographic.{slice_cmp}
use Rattle.std.proofs.lemmas.Cmp.{nat_list_cmp_total}
use Rattle.muck_laws.proofs.Numbers.{fitting, place_at_most, small}
use Rattle.muck_laws.proofs.Orders.{is_less, not_less_turned}
use Rattle.muck_laws.proofs.Places.{map_remove}
use Rattle.muf_model.specs.declared.size.Size.{Size}
use Rattle.muf_model.specs.declared.value.MapKey.{MapKey}
use Rattle.muf_model.specs.declared.value.Pair.{Pair}
use Rattle.muf_model.specs.inner.View.{view, pair_view, value_view}
use Rattle.muf_model.specs.declared.value.MapKey.TheVariants.{Number, Name}
use Rattle.muf_model.specs.Datum.{Datum, items, dict, data_of, pairs_of}
use Rattle.muf_model.specs.Measures.{weight, data_weight, pairs_weight, nesting, data_nesting, pairs_nesting, key_below}
use Rattle.muf_model.specs.Entries.{key_same, value_of_key, with_entry, entry_place, has_key, without_key, entries_above, gathered, IsAhead, Rising}
use Rattle.muf_model.specs.Values.{value_fits, size_fits, RiseInData, RiseInPairs, IsValue, IsSized}
use Rattle.muf_model.proofs.Entries.{rising, same_is, above as passes}
use Rattle.muf_model.proofs.Sized.{sized, within, weight_more, nesting_more, rise_more, entries_again, dict_weight, dict_nesting}

-- ---- room

pub room : (ds : List Datum) (d : Datum) (s t : Size) → IsSized (items (data_of ds)) s → t.weight ≡ s.weight + weight d → t.nesting ≡ max s.nesting (nesting d) → (at : ℕ) → size_fits t ≡ value_fits (items (data_of (insert ds at d)))
room ds d s t h w n at = sym (fitting t.weight t.nesting (weight (items (data_of (insert ds at d)))) (nesting (items (data_of (insert ds at d)))) (omega (arith, weight_more at ds d, h.weighs, w)) (omega (arith, nesting_more at ds d, h.nests, n)))

pub inserted_weight : (ds : List Datum) (d : Datum) (s t : Size) (at : ℕ) → IsSized (items (data_of ds)) s → t.weight ≡ s.weight + weight d → t.weight ≡ data_weight (data_of (insert ds at d))
inserted_weight ds d s t at h w = omega (arith, weight_more at ds d, h.weighs, w)

pub inserted_nesting : (ds : List Datum) (d : Datum) (s t : Size) (at : ℕ) → IsSized (items (data_of ds)) s → t.nesting ≡ max s.nesting (nesting d) → t.nesting ≡ data_nesting (data_of (insert ds at d))
inserted_nesting ds d s t at h n = omega (arith, nesting_more at ds d, h.nests, n)

pub inserted_fits : (i : ℕ) (ds : List Datum) (d : Datum) (s t : Size) → IsSized (items (data_of ds)) s → IsValue d → t.weight ≡ data_weight (data_of (insert ds i d)) → t.nesting ≡ data_nesting (data_of (insert ds i d)) → size_fits t ≡ true → IsSized (items (data_of (insert ds i d))) t
inserted_fits i ds d s t h v w n f =
    sized (items (data_of (insert ds i d))) t (omega (arith, w)) (omega (arith, n)) (rise_more i ds d h.is_value.rising v.rising) f

-- ---- one value less

pub weight_less : (i : ℕ) (ds : List Datum) (d : Datum) → i < length ds → data_weight (data_of (set ds i d)) ≡ weight d + data_weight (data_of (remove ds i))
weight_less i [] d h = absurd (omega arith)
weight_less zero (x ∷ ds) d h = refl
weight_less (suc i) (x ∷ ds) d h = omega (arith, weight_less i ds d (omega arith))

pub nesting_less : (i : ℕ) (ds : List Datum) (d : Datum) → i < length ds → data_nesting (data_of (set ds i d)) ≡ max (nesting d) (data_nesting (data_of (remove ds i)))
nesting_less i [] d h = absurd (omega arith)
nesting_less zero (x ∷ ds) d h = refl
nesting_less (suc i) (x ∷ ds) d h = omega (arith, nesting_less i ds d (omega arith))

weight_within : (i : ℕ) (ds : List Datum) → i < length ds → data_weight (data_of (remove ds i)) ≤ data_weight (data_of ds)
weight_within i [] h = absurd (omega arith)
weight_within zero (x ∷ ds) h = omega arith
weight_within (suc i) (x ∷ ds) h = omega (arith, weight_within i ds (omega arith))

nesting_within : (i : ℕ) (ds : List Datum) → i < length ds → data_nesting (data_of (remove ds i)) ≤ data_nesting (data_of ds)
nesting_within i [] h = absurd (omega arith)
nesting_within zero (x ∷ ds) h = omega arith
nesting_within (suc i) (x ∷ ds) h = omega (arith, nesting_within i ds (omega arith))

rise_less : (i : ℕ) (ds : List Datum) → i < length ds → RiseInData (data_of ds) → RiseInData (data_of (remove ds i))
rise_less i [] h r = absurd (omega arith)
rise_less zero (x ∷ ds) h r = r.1
rise_less (suc i) (x ∷ ds) h r = (r.0, rise_less i ds (omega arith) r.1)

pub less_fits : (i : ℕ) (ds : List Datum) (s t : Size) → i < length ds → IsSized (items (data_of ds)) s → t.weight ≡ data_weight (data_of (remove ds i)) → t.nesting ≡ data_nesting (data_of (remove ds i)) → IsSized (items (data_of (remove ds i))) t
less_fits i ds s t h z w n =
    let l = within (items (data_of ds)) s z in
    sized (items (data_of (remove ds i))) t (omega (arith, w)) (omega (arith, n)) (rise_less i ds h z.is_value.rising) (small t.weight t.nesting (omega (arith, w, l.0, z.weighs, weight_within i ds h)) (omega (arith, n, l.1, z.nests, nesting_within i ds h)))

-- ---- the order of keys

below_further : (j k l : MapKey) → key_below j k ≡ true → key_below k l ≡ true → key_below j l ≡ true
below_further (Number m) (Number n) (Number p) e f = grind (arith, ints, e, f)
below_further (Number m) (Number n) (Name t) e f = refl
below_further (Number m) (Name s) (Number p) e f = search (rules, f)
below_further (Number m) (Name s) (Name t) e f = refl
below_further (Name r) (Number n) l e f = search (rules, e)
below_further (Name r) (Name s) (Number p) e f = search (rules, f)
below_further (Name r) (Name s) (Name t) e f = ap is_lt (nat_list_cmp_total.trans r s t (is_less _ e) (is_less _ f))

not_below_itself : (k : MapKey) → key_below k k ≡ false
not_below_itself (Number n) = grind (arith, ints)
not_below_itself (Name t) = not_less_turned (slice_cmp nat_cmp t t) (nat_list_cmp_total.antisymm t t)

apart_cases : (k l : MapKey) (b : Bool) → key_same k l ≡ b → key_below k l ≡ true → b ≡ false
apart_cases k l true e f = search (rules, sym (subst (λ j. key_below k j ≡ false) (same_is k l e) (not_below_itself k)) ∙ f)
apart_cases k l false e f = refl

below_apart : (k l : MapKey) → key_below k l ≡ true → key_same k l ≡ false
below_apart k l f = apart_cases k l (key_same k l) refl f

ahead_further : (j l : MapKey) (es : List (MapKey × Datum)) → key_below j l ≡ true → IsAhead l es → IsAhead j es
ahead_further j l [] e a = tt
ahead_further j l ((m, y) ∷ es) e a = below_further j l m e a

not_the_same : (k l : MapKey) → key_below l k ≡ true → key_same k l ≡ false
not_the_same k l f = same_cases (key_same k l) refl where
  same_cases : (b : Bool) → key_same k l ≡ b → b ≡ false
  same_cases true e = search (rules, sym (subst (λ j. key_below l j ≡ false) (sym (same_is k l e)) (not_below_itself l)) ∙ f)
  same_cases false e = refl

not_below_back : (k l : MapKey) → key_below l k ≡ true → key_below k l ≡ false
not_below_back k l f = back_cases (key_below k l) refl where
  back_cases : (b : Bool) → key_below k l ≡ b → b ≡ false
  back_cases true e = search (rules, sym (not_below_itself l) ∙ below_further l k l f e)
  back_cases false e = refl

-- ---- the place of a key

below_each : (j : MapKey) (ps : List Pair) (i : ℕ) (d : Pair) → IsAhead j (map pair_view ps) → Rising (map pair_view ps) → i < length ps → key_below j (get_or ps i d).key ≡ true
below_each j [] i d a r h = absurd (omega arith)
below_each j (p ∷ ps) zero d a r h = a
below_each j (p ∷ ps) (suc i) d a r h = below_each j ps i d (ahead_further j p.key (map pair_view ps) a r.0) r.1 (omega arith)

-- a lower key stands before the place of a key
pub lower_before : (k : MapKey) (ps : List Pair) (i : ℕ) (d : Pair) → Rising (map pair_view ps) → i < length ps → key_below (get_or ps i d).key k ≡ true → i < entry_place k (map pair_view ps)
lower_before k [] i d r h e = absurd (omega arith)
lower_before k (p ∷ ps) zero d r h e = rw (not_the_same k p.key e, not_below_back k p.key e) (omega arith)
lower_before k (p ∷ ps) (suc i) d r h e =
    let f : key_below p.key k ≡ true = below_further p.key (get_or ps i d).key k (below_each p.key ps i d r.0 r.1 (omega arith)) e in
    let n : i < entry_place k (map pair_view ps) = lower_before k ps i d r.1 (omega arith) e in
    rw (not_the_same k p.key f, not_below_back k p.key f) (omega arith)

place_from : (k l : MapKey) (n : ℕ) (b c : Bool) → key_same k l ≡ b → key_below k l ≡ c → key_below l k ≡ false → (if b then 0 else (if c then 0 else suc n)) ≤ 0
place_from k l n true c e f h = omega arith
place_from k l n false true e f h = omega arith
place_from k l n false false e f h = search (rules, sym (passes k l e f) ∙ h)

-- and one that is no lower doesn't
pub others_from : (k : MapKey) (ps : List Pair) (i : ℕ) (d : Pair) → i < length ps → key_below (get_or ps i d).key k ≡ false → entry_place k (map pair_view ps) ≤ i
others_from k [] i d h e = absurd (omega arith)
others_from k (p ∷ ps) zero d h e = place_from k p.key (entry_place k (map pair_view ps)) (key_same k p.key) (key_below k p.key) refl refl e
others_from k (p ∷ ps) (suc i) d h e = place_at_most (entry_place k (map pair_view ps)) i (key_same k p.key) (key_below k p.key) (others_from k ps i d (omega arith) e)

none_above : (k : MapKey) (es : List (MapKey × Datum)) → IsAhead k es → Rising es → value_of_key k es ≡ None
none_above k [] a r = refl
none_above k ((l, x) ∷ es) a r = rw (below_apart k l a) (none_above k es (ahead_further k l es a r.0) r.1)

value_cases : (k : MapKey) (p : Pair) (ps : List Pair) (d : Pair) (b c : Bool) → key_same k p.key ≡ b → (has_key k (slice_get (map pair_view ps) (entry_place k (map pair_view ps))) ≡ true → value_of_key k (map pair_view ps) ≡ Some (view (get_or ps (entry_place k (map pair_view ps)) d).value)) → has_key k (slice_get (map pair_view (p ∷ ps)) (if b then 0 else (if c then 0 else suc (entry_place k (map pair_view ps))))) ≡ true → (if b then Some (view p.value) else value_of_key k (map pair_view ps)) ≡ Some (view (get_or (p ∷ ps) (if b then 0 else (if c then 0 else suc (entry_place k (map pair_view ps)))) d).value)
value_cases k p ps d true c e h t = refl
value_cases k p ps d false true e h t = search (rules, sym e ∙ t)
value_cases k p ps d false false e h t = h t

-- the value of a key that has one stands at its place
value_there : (k : MapKey) (ps : List Pair) (d : Pair) → has_key k (slice_get (map pair_view ps) (entry_place k (map pair_view ps))) ≡ true → value_of_key k (map pair_view ps) ≡ Some (view (get_or ps (entry_place k (map pair_view ps)) d).value)
value_there k [] d t = search (rules, t)
value_there k (p ∷ ps) d t = value_cases k p ps d (key_same k p.key) (key_below k p.key) refl (value_there k ps d) t

none_cases : (k l : MapKey) (x : Datum) (es : List (MapKey × Datum)) (b c : Bool) → key_same k l ≡ b → key_below k l ≡ c → IsAhead l es → Rising es → (has_key k (slice_get es (entry_place k es)) ≡ false → value_of_key k es ≡ None) → has_key k (slice_get ((l, x) ∷ es) (if b then 0 else (if c then 0 else suc (entry_place k es)))) ≡ false → (if b then Some x else value_of_key k es) ≡ None
none_cases k l x es true c e f a r h n = search (rules, sym e ∙ n)
none_cases k l x es false true e f a r h n = none_above k es (ahead_further k l es f a) r
none_cases k l x es false false e f a r h n = h n

-- a key that has none has none there
none_there : (k : MapKey) (es : List (MapKey × Datum)) → Rising es → has_key k (slice_get es (entry_place k es)) ≡ false → value_of_key k es ≡ None
none_there k [] r n = refl
none_there k ((l, x) ∷ es) r n = none_cases k l x es (key_same k l) (key_below k l) refl refl r.0 r.1 (none_there k es r.1) n

pub value_at : (k : MapKey) (ps : List Pair) (at : ℕ) (d : Pair) → at ≡ entry_place k (map pair_view ps) → has_key k (slice_get (map pair_view ps) at) ≡ true → value_of_key k (map pair_view ps) ≡ Some (view (get_or ps at d).value)
value_at k ps at d e t =
    value_there k ps d (ap (λ i. has_key k (slice_get (map pair_view ps) i)) (sym e) ∙ t) ∙ ap (λ i. Some (view (get_or ps i d).value)) (sym e)

pub none_at : (k : MapKey) (es : List (MapKey × Datum)) (at : ℕ) → at ≡ entry_place k es → Rising es → has_key k (slice_get es at) ≡ false → value_of_key k es ≡ None
none_at k es at e r n = none_there k es r (ap (λ i. has_key k (slice_get es i)) (sym e) ∙ n)

-- ---- what is gone

all_above : (k : MapKey) (es : List (MapKey × Datum)) → IsAhead k es → Rising es → without_key k es ≡ es
all_above k [] a r = refl
all_above k ((l, x) ∷ es) a r =
    ap (λ b. if b then es else (l, x) ∷ without_key k es) (below_apart k l a) ∙ ap (λ rest. (l, x) ∷ rest) (all_above k es (ahead_further k l es a r.0) r.1)

missing_cases : (k l : MapKey) (x : Datum) (es : List (MapKey × Datum)) (b c : Bool) → key_same k l ≡ b → key_below k l ≡ c → IsAhead l es → Rising es → (has_key k (slice_get es (entry_place k es)) ≡ false → without_key k es ≡ es) → has_key k (slice_get ((l, x) ∷ es) (if b then 0 else (if c then 0 else suc (entry_place k es)))) ≡ false → (if b then es else (l, x) ∷ without_key k es) ≡ (l, x) ∷ es
missing_cases k l x es true c e f a r h n = search (rules, sym e ∙ n)
missing_cases k l x es false true e f a r h n = ap (λ rest. (l, x) ∷ rest) (all_above k es (ahead_further k l es f a) r)
missing_cases k l x es false false e f a r h n = ap (λ rest. (l, x) ∷ rest) (h n)

-- a key that has no value takes nothing with it
pub without_missing : (k : MapKey) (es : List (MapKey × Datum)) → Rising es → has_key k (slice_get es (entry_place k es)) ≡ false → without_key k es ≡ es
without_missing k [] r n = refl
without_missing k ((l, x) ∷ es) r n = missing_cases k l x es (key_same k l) (key_below k l) refl refl r.0 r.1 (without_missing k es r.1) n

there_cases : (k l : MapKey) (x : Datum) (es : List (MapKey × Datum)) (b c : Bool) → key_same k l ≡ b → (has_key k (slice_get es (entry_place k es)) ≡ true → without_key k es ≡ remove es (entry_place k es)) → has_key k (slice_get ((l, x) ∷ es) (if b then 0 else (if c then 0 else suc (entry_place k es)))) ≡ true → (if b then es else (l, x) ∷ without_key k es) ≡ remove ((l, x) ∷ es) (if b then 0 else (if c then 0 else suc (entry_place k es)))
there_cases k l x es true c e h t = refl
there_cases k l x es false true e h t = search (rules, sym e ∙ t)
there_cases k l x es false false e h t = ap (λ rest. (l, x) ∷ rest) (h t)

-- and one that has one takes the entry at its place
pub without_there : (k : MapKey) (es : List (MapKey × Datum)) → has_key k (slice_get es (entry_place k es)) ≡ true → without_key k es ≡ remove es (entry_place k es)
without_there k [] t = refl
without_there k ((l, x) ∷ es) t = there_cases k l x es (key_same k l) (key_below k l) refl (without_there k es) t

-- ---- greater keys

starts_above : (k : MapKey) (es : List (MapKey × Datum)) → IsAhead k es → es ≡ entries_above k es
starts_above k [] a = refl
starts_above k ((l, x) ∷ es) a = sym (ap (λ b. if b then (l, x) ∷ es else entries_above k es) a)

behind_cases : (k l : MapKey) (x : Datum) (es : List (MapKey × Datum)) (b c : Bool) → key_same k l ≡ b → key_below k l ≡ c → IsAhead l es → (has_key k (slice_get es (entry_place k es)) ≡ true → drop (entry_place k es + 1) es ≡ entries_above k es) → has_key k (slice_get ((l, x) ∷ es) (if b then 0 else (if c then 0 else suc (entry_place k es)))) ≡ true → drop ((if b then 0 else (if c then 0 else suc (entry_place k es))) + 1) ((l, x) ∷ es) ≡ (if c then (l, x) ∷ es else entries_above k es)
behind_cases k l x es true true e f a h t = search (rules, sym e ∙ below_apart k l f)
behind_cases k l x es true false e f a h t = starts_above k es (subst (λ j. IsAhead j es) (sym (same_is k l e)) a)
behind_cases k l x es false true e f a h t = search (rules, sym e ∙ t)
behind_cases k l x es false false e f a h t = let m : suc (entry_place k es) + 1 ≡ suc (entry_place k es + 1) = omega arith in rw m (h t)

pub above_there : (k : MapKey) (es : List (MapKey × Datum)) → Rising es → has_key k (slice_get es (entry_place k es)) ≡ true → drop (entry_place k es + 1) es ≡ entries_above k es
above_there k [] r t = refl
above_there k ((l, x) ∷ es) r t = behind_cases k l x es (key_same k l) (key_below k l) refl refl r.0 (above_there k es r.1) t

at_cases : (k l : MapKey) (x : Datum) (es : List (MapKey × Datum)) (b c : Bool) → key_same k l ≡ b → (has_key k (slice_get es (entry_place k es)) ≡ false → drop (entry_place k es) es ≡ entries_above k es) → has_key k (slice_get ((l, x) ∷ es) (if b then 0 else (if c then 0 else suc (entry_place k es)))) ≡ false → drop (if b then 0 else (if c then 0 else suc (entry_place k es))) ((l, x) ∷ es) ≡ (if c then (l, x) ∷ es else entries_above k es)
at_cases k l x es true c e h n = search (rules, sym e ∙ n)
at_cases k l x es false true e h n = refl
at_cases k l x es false false e h n = h n

pub above_missing : (k : MapKey) (es : List (MapKey × Datum)) → has_key k (slice_get es (entry_place k es)) ≡ false → drop (entry_place k es) es ≡ entries_above k es
above_missing k [] n = refl
above_missing k ((l, x) ∷ es) n = at_cases k l x es (key_same k l) (key_below k l) refl (above_missing k es) n

-- ---- the same, at a place that is the key's

pub gone_there : (k : MapKey) (es : List (MapKey × Datum)) (at : ℕ) → at ≡ entry_place k es → has_key k (slice_get es at) ≡ true → remove es at ≡ without_key k es
gone_there k es at e t = ap (remove es) e ∙ sym (without_there k es (ap (λ i. has_key k (slice_get es i)) (sym e) ∙ t))

pub gone_missing : (k : MapKey) (es : List (MapKey × Datum)) (at : ℕ) → at ≡ entry_place k es → Rising es → has_key k (slice_get es at) ≡ false → es ≡ without_key k es
gone_missing k es at e r n = sym (without_missing k es r (ap (λ i. has_key k (slice_get es i)) (sym e) ∙ n))

pub above_behind : (k : MapKey) (es : List (MapKey × Datum)) (at : ℕ) → at ≡ entry_place k es → Rising es → has_key k (slice_get es at) ≡ true → drop (at + 1) es ≡ entries_above k es
above_behind k es at e r t = ap (λ i. drop (i + 1) es) e ∙ above_there k es r (ap (λ i. has_key k (slice_get es i)) (sym e) ∙ t)

pub above_at : (k : MapKey) (es : List (MapKey × Datum)) (at : ℕ) → at ≡ entry_place k es → has_key k (slice_get es at) ≡ false → drop at es ≡ entries_above k es
above_at k es at e n = ap (λ i. drop i es) e ∙ above_missing k es (ap (λ i. has_key k (slice_get es i)) (sym e) ∙ n)

-- ---- an entry less

ahead_less : (l : MapKey) (i : ℕ) (es : List (MapKey × Datum)) → i < length es → IsAhead l es → Rising es → IsAhead l (remove es i)
ahead_less l i [] h a r = absurd (omega arith)
ahead_less l zero ((m, y) ∷ es) h a r = ahead_further l m es a r.0
ahead_less l (suc i) ((m, y) ∷ es) h a r = a

rising_less : (i : ℕ) (es : List (MapKey × Datum)) → i < length es → Rising es → Rising (remove es i)
rising_less i [] h r = absurd (omega arith)
rising_less zero ((l, x) ∷ es) h r = r.1
rising_less (suc i) ((l, x) ∷ es) h r = (ahead_less l i es (omega arith) r.0 r.1, rising_less i es (omega arith) r.1)

rise_pairs_less : (i : ℕ) (es : List (MapKey × Datum)) → i < length es → RiseInPairs (pairs_of es) → RiseInPairs (pairs_of (remove es i))
rise_pairs_less i [] h r = absurd (omega arith)
rise_pairs_less zero (e ∷ es) h r = r.1
rise_pairs_less (suc i) (e ∷ es) h r = (r.0, rise_pairs_less i es (omega arith) r.1)

pairs_weight_less : (i : ℕ) (ps : List Pair) → pairs_weight (pairs_of (remove (map pair_view ps) i)) ≡ data_weight (data_of (remove (map value_view ps) i))
pairs_weight_less i ps = ap (λ es. pairs_weight (pairs_of es)) (sym (map_remove pair_view ps i)) ∙ dict_weight (remove ps i) ∙ ap (λ ds. data_weight (data_of ds)) (map_remove value_view ps i)

pairs_nesting_less : (i : ℕ) (ps : List Pair) → pairs_nesting (pairs_of (remove (map pair_view ps) i)) ≡ data_nesting (data_of (remove (map value_view ps) i))
pairs_nesting_less i ps = ap (λ es. pairs_nesting (pairs_of es)) (sym (map_remove pair_view ps i)) ∙ dict_nesting (remove ps i) ∙ ap (λ ds. data_nesting (data_of ds)) (map_remove value_view ps i)

pub pair_less_fits : (i : ℕ) (ps : List Pair) (s t : Size) → i < length ps → IsSized (dict (pairs_of (map pair_view ps))) s → t.weight ≡ data_weight (data_of (remove (map value_view ps) i)) → t.nesting ≡ data_nesting (data_of (remove (map value_view ps) i)) → IsSized (dict (pairs_of (remove (map pair_view ps) i))) t
pair_less_fits i ps s t h z w n =
    let es = map pair_view ps in
    let l = within (dict (pairs_of es)) s z in
    let here : i < length es = omega (arith, h, length-map ps pair_view) in
    let there : i < length (map value_view ps) = omega (arith, h, length-map ps value_view) in
    let rise : Rising es = subst Rising (entries_again es) z.is_value.rising.0 in
    sized (dict (pairs_of (remove es i))) t (omega (arith, w, pairs_weight_less i ps)) (omega (arith, n, pairs_nesting_less i ps))
    (subst Rising (sym (entries_again (remove es i))) (rising_less i es here rise), rise_pairs_less i es here z.is_value.rising.1)
    (small t.weight t.nesting (omega (arith, w, l.0, z.weighs, dict_weight ps, weight_within i (map value_view ps) there)) (omega (arith, n, l.1, z.nests, dict_nesting ps, nesting_within i (map value_view ps) there)))

-- the keys of a dictionary rise
pub keys_rise : (ps qs : List Pair) (s : Size) → ps ≡ qs → IsSized (dict (pairs_of (map pair_view qs))) s → Rising (map pair_view ps)
keys_rise ps qs s e z = subst (λ rs. Rising (map pair_view rs)) (sym e) (subst Rising (entries_again (map pair_view qs)) z.is_value.rising.0)

-- ---- pairs that are gathered

-- pairs that are put before entries
abbrev pub onto : List (MapKey × Datum) → List (MapKey × Datum) → List (MapKey × Datum)
onto [] es = es
onto ((k, x) ∷ ps) es = with_entry k x (onto ps es)

pub onto_none : (ps : List (MapKey × Datum)) → onto ps [] ≡ gathered ps
onto_none [] = refl
onto_none ((k, x) ∷ ps) = ap (with_entry k x) (onto_none ps)

pub onto_last : (ps : List (MapKey × Datum)) (k : MapKey) (x : Datum) (es : List (MapKey × Datum)) → onto (ps ++ (k, x) ∷ []) es ≡ onto ps (with_entry k x es)
onto_last [] k x es = refl
onto_last ((l, y) ∷ ps) k x es = ap (with_entry l y) (onto_last ps k x es)

rising_gathered : (ps : List (MapKey × Datum)) → Rising (gathered ps)
rising_gathered [] = tt
rising_gathered ((k, x) ∷ ps) = rising k x (gathered ps) (rising_gathered ps)

rise_pairs : (ps : List Pair) → RiseInData (data_of (map value_view ps)) → RiseInPairs (pairs_of (map pair_view ps))
rise_pairs [] r = tt
rise_pairs (p ∷ ps) r = (r.0, rise_pairs ps r.1)

pub gathered_fits : (ps : List Pair) (es : List (MapKey × Datum)) (s : Size) → map pair_view ps ≡ gathered es → IsSized (items (data_of (map value_view ps))) s → IsSized (dict (pairs_of (map pair_view ps))) s
gathered_fits ps es s e z =
    let all = map pair_view ps in
    let rise : Rising all = subst Rising (sym e) (rising_gathered es) in
    record { weighs = ap (λ w. 1 + w) (dict_weight ps) ∙ z.weighs; nests = ap (λ n. 1 + n) (dict_nesting ps) ∙ z.nests; is_value = record { fitting = same_fit ps ∙ z.is_value.fitting; rising = (subst Rising (sym (entries_again all)) rise, rise_pairs ps z.is_value.rising) } } where
      same_fit : (ps : List Pair) → value_fits (dict (pairs_of (map pair_view ps))) ≡ value_fits (items (data_of (map value_view ps)))
      same_fit ps = rw (dict_weight ps, dict_nesting ps) refl

pub gathered_unfit : (ps : List Pair) → value_fits (items (data_of (map value_view ps))) ≡ false → value_fits (dict (pairs_of (map pair_view ps))) ≡ false
gathered_unfit ps e = rw (dict_weight ps, dict_nesting ps) e
