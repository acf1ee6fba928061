-- Keys and entries of dictionaries, and what putting an entry does.
use Rattle.std.proofs.Common.{◌≡◌, ◌≤◌, ℕ, suc, Bool, true, false, List, [], ◌∷◌, Some, None, if◌then◌else◌, refl, ap, sym, subst, ◌∙◌, rules, map, insert, bytes_eq, int_lt, slice_get, slice_set, length, arith}
use Rattle.std.specs.declared.cmp.Ordering.{Ordering}
use Rattle.std.specs.declared.cmp.Ordering.TheVariants.{Less, Equal, Greater}
use Rattle.std.specs.Ordering.{is_lt, is_eq, nat_cmp, ordering_reverse}
use Rattle.std.specs.Cmp.Lexicographic.{slice_cmp}
use Rattle.std.proofs.lemmas.Cmp.{nat_list_cmp_total}
use Rattle.std.proofs.lemmas.Map.Text.{is_eq-slice_cmp}
use Rattle.std.proofs.lemmas.Bool.Decides.{Decides-int_eq}
use Rattle.std.proofs.lemmas.Slice.Eq.{bytes_eq-Decides}
use Rattle.std.proofs.lemmas.List.{map-set}
use Rattle.muck_laws.proofs.Numbers.{number_above, place_at_most}
use Rattle.muck_laws.proofs.Places.{map_insert}
use Rattle.muf_model.specs.declared.value.MapKey.{MapKey}
use Rattle.muf_model.specs.declared.value.MapKey.TheVariants.{Number, Name}
use Rattle.muf_model.specs.declared.value.Pair.{Pair}
use Rattle.muf_model.specs.declared.value.Value.{Value}
use Rattle.muf_model.specs.Datum.{Datum}
use Rattle.muf_model.specs.inner.View.{view, pair_view}
use Rattle.muf_model.specs.Measures.{key_below, text_below}
use Rattle.muf_model.specs.Entries.{key_same, value_of_key, with_entry, entry_place, has_key, IsAhead, Rising}

pub same_is : (k l : MapKey) → key_same k l ≡ true → k ≡ l
same_is (Number m) (Number n) e = ap Number ((Decides-int_eq m n).0 e)
same_is (Number m) (Name t) e = search (rules, e)
same_is (Name s) (Number n) e = search (rules, e)
same_is (Name s) (Name t) e = ap Name ((bytes_eq-Decides s t).0 e)

same_itself : (k : MapKey) → key_same k k ≡ true
same_itself (Number n) = (Decides-int_eq n n).1 refl
same_itself (Name t) = (bytes_eq-Decides t t).1 refl

text_above : (s t : List ℕ) (o : Ordering) → slice_cmp nat_cmp s t ≡ o → bytes_eq s t ≡ false → is_lt o ≡ false → text_below t s ≡ true
text_above s t Less e h l = search (rules, l)
text_above s t Equal e h l = search (rules, sym (ap is_eq e) ∙ is_eq-slice_cmp s t ∙ h)
text_above s t Greater e h l = ap is_lt (nat_list_cmp_total.antisymm t s ∙ ap ordering_reverse e)

-- of two keys that aren't one, one is below the other
pub above : (k l : MapKey) → key_same k l ≡ false → key_below k l ≡ false → key_below l k ≡ true
above (Number m) (Number n) h l = number_above m n (int_lt m n) (int_lt n m) refl refl h l
above (Number m) (Name t) h l = search (rules, l)
above (Name s) (Number n) h l = refl
above (Name s) (Name t) h l = text_above s t (slice_cmp nat_cmp s t) refl h l

found_first : (k : MapKey) (x : Datum) (es : List (MapKey × Datum)) (b : Bool) → b ≡ true → (if b then Some x else value_of_key k es) ≡ Some x
found_first k x es true e = refl
found_first k x es false e = search (rules, e)

found_cases : (k l : MapKey) (x y : Datum) (es : List (MapKey × Datum)) (b c : Bool) → key_same k l ≡ b → value_of_key k (with_entry k x es) ≡ Some x → value_of_key k (if b then (k, x) ∷ es else (if c then (k, x) ∷ (l, y) ∷ es else (l, y) ∷ with_entry k x es)) ≡ Some x
found_cases k l x y es true c e h = found_first k x es (key_same k k) (same_itself k)
found_cases k l x y es false true e h = found_first k x ((l, y) ∷ es) (key_same k k) (same_itself k)
found_cases k l x y es false false e h = ap (λ b. if b then Some y else value_of_key k (with_entry k x es)) e ∙ h

-- the key that was put has the value
pub found : (k : MapKey) (x : Datum) (es : List (MapKey × Datum)) → value_of_key k (with_entry k x es) ≡ Some x
found k x [] = found_first k x [] (key_same k k) (same_itself k)
found k x ((l, y) ∷ es) = found_cases k l x y es (key_same k l) (key_below k l) refl (found k x es)

others_cases : (m k l : MapKey) (x y : Datum) (es : List (MapKey × Datum)) (b c : Bool) → key_same k l ≡ b → key_same m k ≡ false → value_of_key m (with_entry k x es) ≡ value_of_key m es → value_of_key m (if b then (k, x) ∷ es else (if c then (k, x) ∷ (l, y) ∷ es else (l, y) ∷ with_entry k x es)) ≡ value_of_key m ((l, y) ∷ es)
others_cases m k l x y es true c e h i =
    ap (λ b. if b then Some x else value_of_key m es) h
    ∙ sym (ap (λ b. if b then Some y else value_of_key m es) (ap (key_same m) (sym (same_is k l e)) ∙ h))
others_cases m k l x y es false true e h i = ap (λ b. if b then Some x else value_of_key m ((l, y) ∷ es)) h
others_cases m k l x y es false false e h i = ap (λ r. if key_same m l then Some y else r) i

-- and each other key what it had
pub others : (m k : MapKey) (x : Datum) (es : List (MapKey × Datum)) → key_same m k ≡ false → value_of_key m (with_entry k x es) ≡ value_of_key m es
others m k x [] h = ap (λ b. if b then Some x else None) h
others m k x ((l, y) ∷ es) h = others_cases m k l x y es (key_same k l) (key_below k l) refl h (others m k x es h)

ahead_cases : (j k l : MapKey) (x y : Datum) (es : List (MapKey × Datum)) (b c : Bool) → key_below j k ≡ true → key_below j l ≡ true → IsAhead j (if b then (k, x) ∷ es else (if c then (k, x) ∷ (l, y) ∷ es else (l, y) ∷ with_entry k x es))
ahead_cases j k l x y es true c e f = e
ahead_cases j k l x y es false true e f = e
ahead_cases j k l x y es false false e f = f

ahead : (j k : MapKey) (x : Datum) (es : List (MapKey × Datum)) → key_below j k ≡ true → IsAhead j es → IsAhead j (with_entry k x es)
ahead j k x [] e a = e
ahead j k x ((l, y) ∷ es) e a = ahead_cases j k l x y es (key_same k l) (key_below k l) e a

rising_cases : (k l : MapKey) (x y : Datum) (es : List (MapKey × Datum)) (b c : Bool) → key_same k l ≡ b → key_below k l ≡ c → IsAhead l es → Rising es → Rising (with_entry k x es) → Rising (if b then (k, x) ∷ es else (if c then (k, x) ∷ (l, y) ∷ es else (l, y) ∷ with_entry k x es))
rising_cases k l x y es true c e f a r h = (subst (λ j. IsAhead j es) (sym (same_is k l e)) a, r)
rising_cases k l x y es false true e f a r h = (f, (a, r))
rising_cases k l x y es false false e f a r h = (ahead l k x es (above k l e f) a, h)

-- keys that rise still do
pub rising : (k : MapKey) (x : Datum) (es : List (MapKey × Datum)) → Rising es → Rising (with_entry k x es)
rising k x [] r = (tt, tt)
rising k x ((l, y) ∷ es) r = rising_cases k l x y es (key_same k l) (key_below k l) refl refl r.0 r.1 (rising k x es r.1)

replace_cases : (k m : MapKey) (x z : Datum) (es : List (MapKey × Datum)) (b c : Bool) → key_same k m ≡ b → (has_key k (slice_get es (entry_place k es)) ≡ true → slice_set es (entry_place k es) (k, x) ≡ with_entry k x es) → has_key k (slice_get ((m, z) ∷ es) (if b then 0 else (if c then 0 else suc (entry_place k es)))) ≡ true → slice_set ((m, z) ∷ es) (if b then 0 else (if c then 0 else suc (entry_place k es))) (k, x) ≡ (if b then (k, x) ∷ es else (if c then (k, x) ∷ (m, z) ∷ es else (m, z) ∷ with_entry k x es))
replace_cases k m x z es true c e h t = refl
replace_cases k m x z es false true e h t = search (rules, sym e ∙ t)
replace_cases k m x z es false false e h t = ap (λ r. (m, z) ∷ r) (h t)

-- an entry in place of the one that the key has
pub replaced : (k : MapKey) (x : Datum) (es : List (MapKey × Datum)) → has_key k (slice_get es (entry_place k es)) ≡ true → slice_set es (entry_place k es) (k, x) ≡ with_entry k x es
replaced k x [] t = search (rules, t)
replaced k x ((m, z) ∷ es) t = replace_cases k m x z es (key_same k m) (key_below k m) refl (replaced k x es) t

insert_cases : (k m : MapKey) (x z : Datum) (es : List (MapKey × Datum)) (b c : Bool) → key_same k m ≡ b → (has_key k (slice_get es (entry_place k es)) ≡ false → insert es (entry_place k es) (k, x) ≡ with_entry k x es) → has_key k (slice_get ((m, z) ∷ es) (if b then 0 else (if c then 0 else suc (entry_place k es)))) ≡ false → insert ((m, z) ∷ es) (if b then 0 else (if c then 0 else suc (entry_place k es))) (k, x) ≡ (if b then (k, x) ∷ es else (if c then (k, x) ∷ (m, z) ∷ es else (m, z) ∷ with_entry k x es))
insert_cases k m x z es true c e h n = search (rules, sym e ∙ n)
insert_cases k m x z es false true e h n = refl
insert_cases k m x z es false false e h n = ap (λ r. (m, z) ∷ r) (h n)

-- an entry of a key that has none
pub inserted : (k : MapKey) (x : Datum) (es : List (MapKey × Datum)) → has_key k (slice_get es (entry_place k es)) ≡ false → insert es (entry_place k es) (k, x) ≡ with_entry k x es
inserted k x [] n = refl
inserted k x ((m, z) ∷ es) n = insert_cases k m x z es (key_same k m) (key_below k m) refl (inserted k x es) n

-- the same of pairs
pub put_there : (ps : List Pair) (i : ℕ) (k : MapKey) (v : Value) (q : Pair) → pair_view q ≡ (k, view v) → i ≡ entry_place k (map pair_view ps) → has_key k (slice_get (map pair_view ps) i) ≡ true → map pair_view (slice_set ps i q) ≡ with_entry k (view v) (map pair_view ps)
put_there ps i k v q p e t =
    map-set pair_view ps i q
    ∙ ap (slice_set (map pair_view ps) i) p
    ∙ ap (λ j. slice_set (map pair_view ps) j (k, view v)) e
    ∙ replaced k (view v) (map pair_view ps) (ap (λ j. has_key k (slice_get (map pair_view ps) j)) (sym e) ∙ t)

pub put_new : (ps : List Pair) (i : ℕ) (k : MapKey) (v : Value) (q : Pair) → pair_view q ≡ (k, view v) → i ≡ entry_place k (map pair_view ps) → has_key k (slice_get (map pair_view ps) i) ≡ false → map pair_view (insert ps i q) ≡ with_entry k (view v) (map pair_view ps)
put_new ps i k v q p e n =
    map_insert pair_view ps i q
    ∙ ap (insert (map pair_view ps) i) p
    ∙ ap (λ j. insert (map pair_view ps) j (k, view v)) e
    ∙ inserted k (view v) (map pair_view ps) (ap (λ j. has_key k (slice_get (map pair_view ps) j)) (sym e) ∙ n)

pub place_within : (k : MapKey) (es : List (MapKey × Datum)) → entry_place k es ≤ length es
place_within k [] = omega arith
place_within k ((l, x) ∷ es) = place_at_most (entry_place k es) (length es) (key_same k l) (key_below k l) (place_within k es)
