-- The entries of an ordered map, in the words of a finite map.
use Rattle.std.proofs.Common.{◌≡◌, ℕ, Bool, true, false, cond, List, [], ◌∷◌, length, arith, refl, ap, sym, ◌∙◌}
use Rattle.std.specs.Prelude.{None, Some, IfSome, slice_get, ◌&&◌}
use Rattle.std.specs.Cmp.{eq_by_cmp_equiv}
use Rattle.std.specs.Ordering.{is_eq, eq_by_cmp, match_ordering}
use Rattle.std.specs.List.{AllByRecursion}
use Rattle.std.specs.List.{find as find_path}
use Rattle.std.specs.BTreeMap.Range.{entries_between, is_from_start}
use Rattle.std.specs.declared.ops.Bound.{Bound}
use Rattle.std.specs.declared.ops.Bound.TheVariants.{Unbounded}
use Rattle.std.specs.List.Sorted.{IsStrictlySortedBy}
use Rattle.std.specs.Map.{keys_of, lookup, remove_entry, set_value}
use Rattle.std.specs.BTreeMap.{is_at, insert_entry}
use Rattle.std.specs.FinMap.{get, insert, remove, entries, keys, from_entries, find, put, get-from_entries, get-insert, get-remove, entries-insert, len-entries, len-empty, same_map, IsAntisymmetric, slice_cmp-IsAntisymmetric, nat_cmp-IsAntisymmetric}
use Rattle.std.specs.FinMap.Entries.{by_order}
use Rattle.std.specs.declared.cmp.Ordering.TheVariants.{Less, Equal, Greater}
use Rattle.muck_prop.specs.declared.value.PropValue.{PropValue}
use Rattle.muck_prop.specs.Order.{path_cmp, path_cmp_total}
use Rattle.muck_prop.specs.Store.{IsKept, is_nothing}

pub path_cmp_same : IsAntisymmetric path_cmp
path_cmp_same = slice_cmp-IsAntisymmetric (slice_cmp-IsAntisymmetric nat_cmp-IsAntisymmetric)

found : (q : List (List ℕ)) (es : List (List (List ℕ) × PropValue)) → find path_cmp q es ≡ lookup (is_at (path_cmp q)) es
found q [] = refl
found q (e ∷ es) = ap (cond (is_eq (path_cmp q e.0)) (Some e.1)) (found q es)

-- the value at a path
pub get_is : (q : List (List ℕ)) (es : List (List (List ℕ) × PropValue)) → get (from_entries {R = path_cmp} es) q ≡ lookup (is_at (path_cmp q)) es
get_is q es = get-from_entries path_cmp_total es q ∙ found q es

pub turned : (k q : List (List ℕ)) → is_at (path_cmp k) q ≡ eq_by_cmp path_cmp q k
turned k q = (eq_by_cmp_equiv path_cmp_total).symm k q

-- entries that answer as others do, but at one path
pub inserted : (k : List (List ℕ)) (v : PropValue) (es fs : List (List (List ℕ) × PropValue))
    → ((q : List (List ℕ)) → lookup (is_at (path_cmp q)) fs ≡ cond (is_at (path_cmp k) q) (Some v) (lookup (is_at (path_cmp q)) es))
    → from_entries {R = path_cmp} fs ≡ insert (from_entries es) k v
inserted k v es fs told =
    same_map path_cmp_total path_cmp_same _ _ (λ q.
    get_is q fs ∙ told q
    ∙ (λ i. cond (turned k q i) (Some v) (sym (get_is q es) i))
    ∙ sym (get-insert path_cmp_total (from_entries es) k v q))

pub removed : (k : List (List ℕ)) (es fs : List (List (List ℕ) × PropValue))
    → ((q : List (List ℕ)) → lookup (is_at (path_cmp q)) fs ≡ cond (is_at (path_cmp k) q) None (lookup (is_at (path_cmp q)) es))
    → from_entries {R = path_cmp} fs ≡ remove (from_entries es) k
removed k es fs told =
    same_map path_cmp_total path_cmp_same _ _ (λ q.
    get_is q fs ∙ told q
    ∙ (λ i. cond (turned k q i) None (sym (get_is q es) i))
    ∙ sym (get-remove path_cmp_total (from_entries es) k q))

-- the paths, in their order
put_first : (k : List (List ℕ)) (v : PropValue) (es : List (List (List ℕ) × PropValue)) → AllByRecursion (λ q. path_cmp k q ≡ Less) (keys_of es) → put path_cmp k v es ≡ (k, v) ∷ es
put_first k v [] h = refl
put_first k v (e ∷ es) h = ap (λ r. by_order r ((k, v) ∷ e ∷ es) ((e.0, v) ∷ es) (e ∷ put path_cmp k v es)) h.0

no_entries : (es : List (List (List ℕ) × PropValue)) → length es ≡ 0 → es ≡ []
no_entries [] h = refl
no_entries (e ∷ es) h = absurd (omega arith)

pub entries_are : (es : List (List (List ℕ) × PropValue)) → IsStrictlySortedBy path_cmp (keys_of es) → entries (from_entries {R = path_cmp} es) ≡ es
unfolding IsStrictlySortedBy
entries_are [] h = no_entries _ (sym (len-entries _) ∙ len-empty path_cmp PropValue)
entries_are (e ∷ es) h = entries-insert path_cmp_total (from_entries es) e.0 e.1 ∙ ap (put path_cmp e.0 e.1) (entries_are es h.1) ∙ put_first e.0 e.1 es h.0

pub keys_are : (es : List (List (List ℕ) × PropValue)) → IsStrictlySortedBy path_cmp (keys_of es) → keys (from_entries {R = path_cmp} es) ≡ keys_of es
keys_are es h = ap keys_of (entries_are es h)

-- what is kept stays so
pub kept_inserted : (k : List (List ℕ)) (v : PropValue) (es : List (List (List ℕ) × PropValue)) → IsKept (k, v) → AllByRecursion IsKept es → AllByRecursion IsKept (insert_entry path_cmp es k v)
kept_inserted k v [] new old = (new, tt)
kept_inserted k v (e ∷ es) new old =
    elim (path_cmp k e.0) as (λ r. AllByRecursion IsKept (match_ordering r ((k, v) ∷ e ∷ es) ((e.0, v) ∷ es) (e ∷ insert_entry path_cmp es k v))) [
      | Less ↦ (new, old)
      | Equal ↦ (record { path = old.0.path; value = new.value }, old.1)
      | Greater ↦ (old.0, kept_inserted k v es new old.1)
    ]

pub kept_removed : (test : List (List ℕ) → Bool) (es : List (List (List ℕ) × PropValue)) → AllByRecursion IsKept es → AllByRecursion IsKept (remove_entry test es)
kept_removed test [] old = tt
kept_removed test (e ∷ es) old = elim (test e.0) as (λ b. AllByRecursion IsKept (cond b es (e ∷ remove_entry test es))) [ true ↦ old.1 | false ↦ (old.0, kept_removed test es old.1) ]

pub kept_set : (test : List (List ℕ) → Bool) (v : PropValue) (es : List (List (List ℕ) × PropValue)) → is_nothing v ≡ false → AllByRecursion IsKept es → AllByRecursion IsKept (set_value test es v)
kept_set test v [] new old = tt
kept_set test v (e ∷ es) new old =
    elim (test e.0) as (λ b. AllByRecursion IsKept (cond b ((e.0, v) ∷ es) (e ∷ set_value test es v))) [
      | true ↦ (record { path = old.0.path; value = new }, old.1)
      | false ↦ (old.0, kept_set test v es new old.1)
    ]

-- the first path within a start
pub first_start : (lo : Bound (List (List ℕ))) (es : List (List (List ℕ) × PropValue)) → slice_get (keys_of (entries_between path_cmp lo Unbounded es)) 0 ≡ find_path (is_from_start path_cmp lo) (keys_of es)
first_start lo [] = refl
first_start lo (e ∷ es) =
    elim (is_from_start path_cmp lo e.0) as (λ b. slice_get (keys_of (cond (b && true) (e ∷ entries_between path_cmp lo Unbounded es) (entries_between path_cmp lo Unbounded es))) 0 ≡ cond b (Some e.0) (find_path (is_from_start path_cmp lo) (keys_of es))) [
      | true ↦ refl
      | false ↦ first_start lo es
    ]

pub found_is_kept : (test : List (List ℕ) → Bool) (es : List (List (List ℕ) × PropValue)) → AllByRecursion IsKept es → IfSome (lookup test es) (λ v. is_nothing v ≡ false)
found_is_kept test [] kept = tt
found_is_kept test (e ∷ es) kept = elim (test e.0) as (λ b. IfSome (cond b (Some e.1) (lookup test es)) (λ v. is_nothing v ≡ false)) [ true ↦ kept.0.value | false ↦ found_is_kept test es kept.1 ]
