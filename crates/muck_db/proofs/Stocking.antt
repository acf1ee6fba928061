-- Properties whose paths rise, put one by one.
use Rattle.std.proofs.Common.{◌≡◌, ℕ, ◌+◌, ◌<◌, zero, suc, Bool, false, cond, List, [], ◌∷◌, map, length, take, Option, Some, None, refl, sym, ap, subst, ◌∙◌, get_or, add-one}
use Rattle.std.specs.List.{slice_get}
use Rattle.std.specs.Ordering.{is_eq, ordering_reverse}
use Rattle.std.specs.declared.cmp.Ordering.{Ordering}
use Rattle.std.specs.declared.cmp.Ordering.TheVariants.{Less, Greater}
use Rattle.std.specs.Cmp.{IsTotalOrder}
use Rattle.std.specs.FinMap.{from_entries, insert, remove, find, from_entries_push}
use Rattle.std.proofs.lemmas.List.{map-append}
use Rattle.std.proofs.lemmas.Option.{slice_get_read}
use Rattle.muck_laws.proofs.Lists.{some_text}
use Rattle.muck_laws.proofs.Orders.{is_less}
use Rattle.muck_laws.proofs.Places.{take_next}
use Rattle.muck_prop.specs.declared.value.PropValue.{PropValue}
use Rattle.muck_prop.specs.declared.value.PropValue.TheVariants.{Text, Number}
use Rattle.muck_prop.specs.Order.{path_cmp, path_cmp_total}
use Rattle.muck_prop.specs.Store.{PropMap, is_nothing, value_stored}
use Rattle.muck_prop.proofs.Maps.{path_cmp_same}
use Rattle.muck_codec.specs.declared.stored.Property.{Property}
use Rattle.muck_codec.specs.inner.Stored.{IsValue, IsProperty, Run, AreProperties}
use Rattle.muck_store.specs.Forms.{entry_at}

-- The order of the paths.

abbrev Rise : Option (List (List ℕ)) → List Property → Type 0
Rise before ps = Run (λ (x : Property). x.path) IsProperty before ps

-- what stands behind a path has a greater one
later : (b : List (List ℕ)) (ps : List Property) (i : ℕ) (p : Property) → Rise (Some b) ps → slice_get ps i ≡ Some p → path_cmp b p.path ≡ Less
later b [] i p run at = absurd (cc at)
later b (x ∷ ps) zero p run at = let same : x ≡ p = cc at in subst (λ (y : Property). path_cmp b y.path ≡ Less) same (is_less (path_cmp b x.path) run.0.0.1)
later b (x ∷ ps) (suc i) p run at =
    let order : IsTotalOrder path_cmp = path_cmp_total in
    order.trans b x.path p.path (is_less (path_cmp b x.path) run.0.0.1) (later x.path ps i p run.1 at)

greater : (x q : List (List ℕ)) → path_cmp x q ≡ Less → path_cmp q x ≡ Greater
greater x q h = let order : IsTotalOrder path_cmp = path_cmp_total in order.antisymm q x ∙ ap ordering_reverse h

-- no property before one has its path
new_path : (before : Option (List (List ℕ))) (ps : List Property) (i : ℕ) (p : Property) → Rise before ps → slice_get ps i ≡ Some p → find path_cmp p.path (map entry_at (take i ps)) ≡ None
new_path before [] i p run at = absurd (cc at)
new_path before (x ∷ ps) zero p run at = refl
new_path before (x ∷ ps) (suc i) p run at =
    ap (λ (r : Ordering). cond (is_eq r) (Some x.value) (find path_cmp p.path (map entry_at (take i ps)))) (greater x.path p.path (later x.path ps i p run.1 at))
    ∙ new_path (Some x.path) ps i p run.1 at

-- The values.

something : (v : PropValue) → IsValue v → is_nothing v ≡ false
something (Text text) h = some_text text h.0.0
something (Number n) h = h.1

value_at : (before : Option (List (List ℕ))) (ps : List Property) (i : ℕ) (p : Property) → Rise before ps → slice_get ps i ≡ Some p → IsValue p.value
value_at before [] i p run at = absurd (cc at)
value_at before (x ∷ ps) zero p run at = let same : x ≡ p = cc at in subst (λ (y : Property). IsValue y.value) same run.0.1
value_at before (x ∷ ps) (suc i) p run at = value_at (Some x.path) ps i p run.1 at

stored_new : (path : List (List ℕ)) (v : PropValue) (m : PropMap) → is_nothing v ≡ false → value_stored path v m ≡ insert m path v
stored_new path v m h = ap (λ (b : Bool). cond b (remove m path) (insert m path v)) h

-- the map of the properties so far, with the next one stored
stored_next : (ps : List Property) (i : ℕ) (p : Property) → AreProperties ps → slice_get ps i ≡ Some p
    → value_stored p.path p.value (from_entries {R = path_cmp} (map entry_at (take i ps))) ≡ from_entries {R = path_cmp} (map entry_at (take (suc i) ps))
stored_next ps i p h at =
    stored_new p.path p.value (from_entries {R = path_cmp} (map entry_at (take i ps))) (something p.value (value_at None ps i p h.1 at))
    ∙ sym (from_entries_push path_cmp_total path_cmp_same (map entry_at (take i ps)) p.path p.value (new_path None ps i p h.1 at))
    ∙ ap (λ (es : List (List (List ℕ) × PropValue)). from_entries {R = path_cmp} es) (sym (map-append entry_at (take i ps) (p ∷ [])))
    ∙ ap (λ (qs : List Property). from_entries {R = path_cmp} (map entry_at qs)) (sym (take_next ps i p at))

pub put_next : (ps : List Property) (i : ℕ) (p : Property) (path : List (List ℕ)) (value : PropValue) (old new : PropMap) → AreProperties ps → i < length ps → p ≡ get_or ps i p
    → path ≡ p.path → value ≡ p.value → old ≡ from_entries (map entry_at (take i ps)) → new ≡ value_stored path value old → new ≡ from_entries (map entry_at (take (i + 1) ps))
put_next ps i p path value old new h lt is is_path is_value is_old is_new =
    is_new ∙ (λ j. value_stored (is_path j) (is_value j) (is_old j)) ∙ stored_next ps i p h (slice_get_read ps (length ps) i p refl lt is)
    ∙ ap (λ (n : ℕ). from_entries {R = path_cmp} (map entry_at (take n ps))) (sym (add-one i))
