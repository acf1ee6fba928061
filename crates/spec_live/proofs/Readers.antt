-- What the readers of the objects give after a change.
use Rattle.std.proofs.Common.{◌≡◌, ℕ, ◌<◌, ◌≤◌, suc, List, [], ◌∷◌, Option, Some, None, inl, inr, refl, sym, ◌∙◌, ap, length, arith, Bool, true, false, map}
use Rattle.std.proofs.lemmas.Bool.{cases_eq, cases_lt, false≢true}
use Rattle.std.proofs.lemmas.Option.{slice_get-map, slice_get_past}
use Rattle.std.specs.List.{slice_get}
use Rattle.std.specs.Option.{option_map, option_and_then, option_map_or}
use Rattle.muck_laws.proofs.Mapped.{length_map}
use Rattle.muck_laws.proofs.Numbers.{same_place}
use Rattle.muck_laws.proofs.Places.{read_mapped, some_at}
use Rattle.muck_model.specs.declared.dbref.Dbref.{Dbref}
use Rattle.muck_model.specs.declared.dbref.Flags.{Flags}
use Rattle.muck_model.specs.declared.dbref.Kind.{Kind}
use Rattle.muck_model.specs.declared.dbref.Kind.TheVariants.{Garbage}
use Rattle.spec_live.specs.declared.object.Object.{Object}
use Rattle.spec_live.specs.declared.mark.Mark.{Mark}
use Rattle.spec_live.specs.declared.saving.Saving.{Saving}
use Rattle.spec_live.specs.declared.saving.Saving.TheVariants.{Due}
use Rattle.spec_live.specs.Chain.{without_number, put_at}
use Rattle.spec_live.specs.Flags.{no_flags}
use Rattle.spec_live.specs.Objects.{Entry, index_of, object_in, entry_list, list_in, mark_in, kind_in, flags_in, place_in, fits_in, is_vehicle_in, is_exit, changed_at, on_object, with_object}
use Rattle.spec_live.specs.Moving.{left_out, put_first, with_place, set_down, moved}
use Rattle.spec_live.specs.Saving.{saving_in}
use Rattle.spec_live.specs.Stood.{stood_in}
use Rattle.spec_live.proofs.Lists.{get_changed_same, get_changed_other, length_changed, put_same, put_other}
use Rattle.spec_live.proofs.Savings.{length_relinked, object_relinked, list_relinked, mark_relinked}

-- Two lists of entries that every reader sees alike.

entry_same : (a b : Entry) → a.object ≡ b.object → a.contents ≡ b.contents → a.exits ≡ b.exits → a.mark ≡ b.mark → a.saving ≡ b.saving → a.stood ≡ b.stood → a ≡ b
entry_same a b o c x m s t =
    let make : Object → List ℕ → List ℕ → Option Mark → Saving → Option Dbref → Entry = λ o c x m s t. record { object = o; contents = c; exits = x; mark = m; saving = s; stood = t } in
    ap (λ z. make z a.contents a.exits a.mark a.saving a.stood) o ∙ ap (λ z. make b.object z a.exits a.mark a.saving a.stood) c ∙ ap (λ z. make b.object b.contents z a.mark a.saving a.stood) x
    ∙ ap (λ z. make b.object b.contents b.exits z a.saving a.stood) m ∙ ap (λ z. make b.object b.contents b.exits b.mark z a.stood) s ∙ ap (λ z. make b.object b.contents b.exits b.mark b.saving z) t

list_ext : (es fs : List Entry) → length es ≡ length fs → ((k : ℕ) → option_map (λ (e : Entry). e.object) (slice_get es k) ≡ option_map (λ (e : Entry). e.object) (slice_get fs k))
    → ((v : Bool) (k : ℕ) → option_map_or (entry_list v) (slice_get es k) [] ≡ option_map_or (entry_list v) (slice_get fs k) [])
    → ((k : ℕ) → option_and_then (λ (e : Entry). e.mark) (slice_get es k) ≡ option_and_then (λ (e : Entry). e.mark) (slice_get fs k))
    → ((k : ℕ) → option_map_or (λ (e : Entry). e.saving) (slice_get es k) Due ≡ option_map_or (λ (e : Entry). e.saving) (slice_get fs k) Due)
    → ((k : ℕ) → option_and_then (λ (e : Entry). e.stood) (slice_get es k) ≡ option_and_then (λ (e : Entry). e.stood) (slice_get fs k)) → es ≡ fs
list_ext [] [] n o l m s t = refl
list_ext [] (f ∷ fs) n o l m s t = absurd (omega arith)
list_ext (e ∷ es) [] n o l m s t = absurd (omega arith)
list_ext (e ∷ es) (f ∷ fs) n o l m s t =
    let head : e ≡ f = entry_same e f (cc (o 0)) (l false 0) (l true 0) (m 0) (s 0) (t 0) in
    let rest : es ≡ fs = list_ext es fs (omega arith) (λ k. o (suc k)) (λ v k. l v (suc k)) (λ k. m (suc k)) (λ k. s (suc k)) (λ k. t (suc k)) in
    cc

pub entries_ext : (es fs : List Entry) → length es ≡ length fs → ((k : ℕ) → object_in es k ≡ object_in fs k) → ((v : Bool) (k : ℕ) → list_in v es k ≡ list_in v fs k)
    → ((k : ℕ) → mark_in es k ≡ mark_in fs k) → ((k : ℕ) → saving_in es k ≡ saving_in fs k) → ((k : ℕ) → stood_in es k ≡ stood_in fs k) → es ≡ fs
unfolding object_in list_in mark_in saving_in stood_in
entries_ext es fs n o l m s t = list_ext es fs n o l m s t

-- What isn't there.

pub object_past : (es : List Entry) (k : ℕ) → length es ≤ k → object_in es k ≡ None
unfolding object_in
object_past es k le = rw (slice_get_past es k le) refl

pub kind_past : (es : List Entry) (k : ℕ) → length es ≤ k → kind_in es k ≡ Garbage
unfolding kind_in
kind_past es k le = rw (object_past es k le) refl

pub place_past : (es : List Entry) (k : ℕ) → length es ≤ k → place_in es k ≡ None
unfolding place_in
place_past es k le = rw (object_past es k le) refl

pub object_there : (es : List Entry) (k : ℕ) → k < length es → (o : Object) × (object_in es k ≡ Some o)
unfolding object_in
object_there es k lt = let s : (x : Entry) × (slice_get es k ≡ Some x) = some_at es k lt in (s.0.object, rw s.1 refl)

pub place_known : (es : List Entry) (k p : ℕ) → place_in es k ≡ Some p → k < length es
place_known es k p h = elim (cases_lt k (length es)) [ inl lt ↦ lt | inr le ↦ absurd (cc (h, place_past es k le)) ]

-- The other readers of an object that is there.

pub kind_is : (es : List Entry) (k : ℕ) (o : Object) → object_in es k ≡ Some o → kind_in es k ≡ o.kind
unfolding kind_in
kind_is es k o h = rw h refl

pub place_is : (es : List Entry) (k : ℕ) (o : Object) → object_in es k ≡ Some o → place_in es k ≡ index_of o.place
unfolding place_in
place_is es k o h = rw h refl

pub flags_is : (es : List Entry) (k : ℕ) (o : Object) → object_in es k ≡ Some o → flags_in es k ≡ o.flags
unfolding flags_in
flags_is es k o h = rw h refl

-- What two lists of entries have alike where an object is.

pub kind_alike : (es fs : List Entry) (k : ℕ) → object_in fs k ≡ object_in es k → kind_in fs k ≡ kind_in es k
unfolding kind_in
kind_alike es fs k h = rw h refl

pub place_alike : (es fs : List Entry) (k : ℕ) → object_in fs k ≡ object_in es k → place_in fs k ≡ place_in es k
unfolding place_in
place_alike es fs k h = rw h refl

pub flags_alike : (es fs : List Entry) (k : ℕ) → object_in fs k ≡ object_in es k → flags_in fs k ≡ flags_in es k
unfolding flags_in
flags_alike es fs k h = rw h refl

pub vehicle_alike : (es fs : List Entry) (k : ℕ) → flags_in fs k ≡ flags_in es k → is_vehicle_in fs k ≡ is_vehicle_in es k
unfolding is_vehicle_in
vehicle_alike es fs k h = rw h refl

pub fits_alike : (es fs : List Entry) (d p : ℕ) → kind_in fs d ≡ kind_in es d → kind_in fs p ≡ kind_in es p → is_vehicle_in fs p ≡ is_vehicle_in es p → fits_in fs d p ≡ fits_in es d p
unfolding fits_in
fits_alike es fs d p k q v = rw (k, q, v) refl

-- A change at one place, seen by a reader that it leaves alone.

pub entry_change : {X : Type 0} (read : Option Entry → X) (n k : ℕ) (f : Entry → Entry) (es : List Entry) → ((e : Entry) → read (Some (f e)) ≡ read (Some e)) → read (slice_get (changed_at n f es) k) ≡ read (slice_get es k)
entry_change read n k f es h = elim (cases_eq k n) [
  | inl q ↦ rw (q, get_changed_same es n f) (by_cases (slice_get es n))
  | inr q ↦ rw (get_changed_other es n k f q) refl
]
  where
    by_cases : (o : Option Entry) → read (option_map f o) ≡ read o
    by_cases None = refl
    by_cases (Some e) = h e

pub object_change : (n k : ℕ) (f : Entry → Entry) (es : List Entry) → ((e : Entry) → (f e).object ≡ e.object) → object_in (changed_at n f es) k ≡ object_in es k
unfolding object_in
object_change n k f es h = entry_change (λ o. option_map (λ (e : Entry). e.object) o) n k f es (λ e. ap Some (h e))

pub list_change : (v : Bool) (n k : ℕ) (f : Entry → Entry) (es : List Entry) → ((e : Entry) → entry_list v (f e) ≡ entry_list v e) → list_in v (changed_at n f es) k ≡ list_in v es k
unfolding list_in
list_change v n k f es h = entry_change (λ o. option_map_or (entry_list v) o []) n k f es h

pub mark_change : (n k : ℕ) (f : Entry → Entry) (es : List Entry) → ((e : Entry) → (f e).mark ≡ e.mark) → mark_in (changed_at n f es) k ≡ mark_in es k
unfolding mark_in
mark_change n k f es h = entry_change (λ o. option_and_then (λ (e : Entry). e.mark) o) n k f es h

pub object_elsewhere : (n k : ℕ) (f : Entry → Entry) (es : List Entry) → (k ≡ n → ⊥) → object_in (changed_at n f es) k ≡ object_in es k
unfolding object_in
object_elsewhere n k f es ne = rw (get_changed_other es n k f ne) refl

pub list_elsewhere : (v : Bool) (n k : ℕ) (f : Entry → Entry) (es : List Entry) → (k ≡ n → ⊥) → list_in v (changed_at n f es) k ≡ list_in v es k
unfolding list_in
list_elsewhere v n k f es ne = rw (get_changed_other es n k f ne) refl

pub mark_elsewhere : (n k : ℕ) (f : Entry → Entry) (es : List Entry) → (k ≡ n → ⊥) → mark_in (changed_at n f es) k ≡ mark_in es k
unfolding mark_in
mark_elsewhere n k f es ne = rw (get_changed_other es n k f ne) refl

-- A change of one object.

pub object_changed : (n : ℕ) (f : Object → Object) (es : List Entry) → object_in (changed_at n (on_object f) es) n ≡ option_map f (object_in es n)
unfolding object_in
object_changed n f es = rw (get_changed_same es n (on_object f)) (by_cases (slice_get es n))
  where
    by_cases : (o : Option Entry) → option_map (λ (e : Entry). e.object) (option_map (on_object f) o) ≡ option_map f (option_map (λ (e : Entry). e.object) o)
    by_cases None = refl
    by_cases (Some e) = refl

pub object_unchanged : (n k : ℕ) (f : Object → Object) (es : List Entry) → (k ≡ n → ⊥) → object_in (changed_at n (on_object f) es) k ≡ object_in es k
object_unchanged n k f es ne = object_elsewhere n k (on_object f) es ne

on_object_list : (v : Bool) (f : Object → Object) (e : Entry) → entry_list v (on_object f e) ≡ entry_list v e
on_object_list true f e = refl
on_object_list false f e = refl

pub list_changed : (v : Bool) (n k : ℕ) (f : Object → Object) (es : List Entry) → list_in v (changed_at n (on_object f) es) k ≡ list_in v es k
list_changed v n k f es = list_change v n k (on_object f) es (on_object_list v f)

pub mark_changed : (n k : ℕ) (f : Object → Object) (es : List Entry) → mark_in (changed_at n (on_object f) es) k ≡ mark_in es k
mark_changed n k f es = mark_change n k (on_object f) es (λ e. refl)

-- seen by what reads something else of it
read_changed : {X : Type 0} (read : Option Object → X) (n k : ℕ) (f : Object → Object) (es : List Entry) → ((o : Object) → read (Some (f o)) ≡ read (Some o)) → read (object_in (changed_at n (on_object f) es) k) ≡ read (object_in es k)
read_changed read n k f es h = elim (cases_eq k n) [
  | inl q ↦ rw (q, object_changed n f es) (by_cases (object_in es n))
  | inr q ↦ rw (object_unchanged n k f es q) refl
]
  where
    by_cases : (o : Option Object) → read (option_map f o) ≡ read o
    by_cases None = refl
    by_cases (Some o) = h o

abbrev kind_seen : Option Object → Kind
kind_seen o = option_map_or (λ (x : Object). x.kind) o Garbage

abbrev flags_seen : Option Object → Flags
flags_seen o = option_map_or (λ (x : Object). x.flags) o no_flags

abbrev place_seen : Option Object → Option ℕ
place_seen o = option_and_then (λ (x : Object). index_of x.place) o

pub kind_changed : (n k : ℕ) (f : Object → Object) (es : List Entry) → ((o : Object) → (f o).kind ≡ o.kind) → kind_in (changed_at n (on_object f) es) k ≡ kind_in es k
unfolding kind_in
kind_changed n k f es h = read_changed kind_seen n k f es h

pub flags_changed : (n k : ℕ) (f : Object → Object) (es : List Entry) → ((o : Object) → (f o).flags ≡ o.flags) → flags_in (changed_at n (on_object f) es) k ≡ flags_in es k
unfolding flags_in
flags_changed n k f es h = read_changed flags_seen n k f es h

pub place_changed : (n k : ℕ) (f : Object → Object) (es : List Entry) → ((o : Object) → (f o).place ≡ o.place) → place_in (changed_at n (on_object f) es) k ≡ place_in es k
unfolding place_in
place_changed n k f es h = read_changed place_seen n k f es (λ o. ap (λ d. index_of d) (h o))

-- An object in place of another.

pub object_named : (n : ℕ) (o : Object) (es : List Entry) → n < length es → object_in (changed_at n (with_object o) es) n ≡ Some o
unfolding object_in
object_named n o es lt = let s : (x : Entry) × (slice_get es n ≡ Some x) = some_at es n lt in rw (get_changed_same es n (with_object o), s.1) refl

pub object_unnamed : (n k : ℕ) (o : Object) (es : List Entry) → (k ≡ n → ⊥) → object_in (changed_at n (with_object o) es) k ≡ object_in es k
object_unnamed n k o es ne = object_elsewhere n k (with_object o) es ne

with_object_list : (v : Bool) (o : Object) (e : Entry) → entry_list v (with_object o e) ≡ entry_list v e
with_object_list true o e = refl
with_object_list false o e = refl

pub list_named : (v : Bool) (n k : ℕ) (o : Object) (es : List Entry) → list_in v (changed_at n (with_object o) es) k ≡ list_in v es k
list_named v n k o es = list_change v n k (with_object o) es (with_object_list v o)

pub mark_named : (n k : ℕ) (o : Object) (es : List Entry) → mark_in (changed_at n (with_object o) es) k ≡ mark_in es k
mark_named n k o es = mark_change n k (with_object o) es (λ e. refl)

-- A number left out of all lists.

pub object_left : (d k : ℕ) (es : List Entry) → object_in (map (left_out d) es) k ≡ object_in es k
unfolding object_in
object_left d k es = read_mapped (λ o. option_map (λ (e : Entry). e.object) o) (left_out d) es k (λ e. refl)

pub list_left : (v : Bool) (d k : ℕ) (es : List Entry) → list_in v (map (left_out d) es) k ≡ without_number d (list_in v es k)
unfolding list_in without_number
list_left v d k es = rw (slice_get-map (left_out d) es k) (by_cases v (slice_get es k))
  where
    by_cases : (v : Bool) (o : Option Entry) → option_map_or (entry_list v) (option_map (left_out d) o) [] ≡ without_number d (option_map_or (entry_list v) o [])
    by_cases v None = refl
    by_cases true (Some e) = refl
    by_cases false (Some e) = refl

pub mark_left : (d k : ℕ) (es : List Entry) → mark_in (map (left_out d) es) k ≡ mark_in es k
unfolding mark_in
mark_left d k es = read_mapped (λ o. option_and_then (λ (e : Entry). e.mark) o) (left_out d) es k (λ e. refl)

-- A number in front of a list.

put_object : (w : Bool) (d : ℕ) (e : Entry) → (put_first w d e).object ≡ e.object
put_object true d e = refl
put_object false d e = refl

put_mark : (w : Bool) (d : ℕ) (e : Entry) → (put_first w d e).mark ≡ e.mark
put_mark true d e = refl
put_mark false d e = refl

put_list_same : (w v : Bool) (d : ℕ) (e : Entry) → v ≡ w → entry_list v (put_first w d e) ≡ d ∷ entry_list v e
put_list_same true true d e h = refl
put_list_same false false d e h = refl
put_list_same true false d e h = absurd (false≢true h)
put_list_same false true d e h = absurd (false≢true (sym h))

put_list_other : (w v : Bool) (d : ℕ) (e : Entry) → (v ≡ w → ⊥) → entry_list v (put_first w d e) ≡ entry_list v e
put_list_other true true d e h = absurd (h refl)
put_list_other false false d e h = absurd (h refl)
put_list_other true false d e h = refl
put_list_other false true d e h = refl

pub list_put : (w v : Bool) (d to k : ℕ) (es : List Entry) → to < length es → list_in v (changed_at to (put_first w d) es) k ≡ put_at w to d v k (list_in v es k)
unfolding list_in
list_put w v d to k es lt = elim (same_place v w k to) [
  | inl q ↦
      let s : (x : Entry) × (slice_get es to ≡ Some x) = some_at es to lt in
      rw (put_same w to d v k (option_map_or (entry_list v) (slice_get es k) []) q.0 q.1, q.1, get_changed_same es to (put_first w d), s.1) (put_list_same w v d s.0 q.0)
  | inr q ↦ rw (put_other w to d v k (option_map_or (entry_list v) (slice_get es k) []) q) (elim (cases_eq k to) [
    | inl e ↦ rw (e, get_changed_same es to (put_first w d)) (by_cases (λ s. q s e) (slice_get es to))
    | inr e ↦ rw (get_changed_other es to k (put_first w d) e) refl
  ])
]
  where
    by_cases : (v ≡ w → ⊥) → (o : Option Entry) → option_map_or (entry_list v) (option_map (put_first w d) o) [] ≡ option_map_or (entry_list v) o []
    by_cases h None = refl
    by_cases h (Some e) = put_list_other w v d e h

-- An object set down in front of a list, without the marks of what is linked otherwise then.

pub length_down : (es : List Entry) (d to : ℕ) → length (set_down d to es) ≡ length es
unfolding set_down
length_down es d to = length_changed (changed_at to (put_first (is_exit (kind_in es d)) d) (map (left_out d) es)) d (on_object (with_place to)) ∙ length_changed (map (left_out d) es) to (put_first (is_exit (kind_in es d)) d) ∙ length_map (left_out d) es

pub list_down : (v : Bool) (es : List Entry) (d to k : ℕ) → to < length es → list_in v (set_down d to es) k ≡ put_at (is_exit (kind_in es d)) to d v k (without_number d (list_in v es k))
unfolding set_down
list_down v es d to k lt =
    let m : List Entry = map (left_out d) es in
    list_changed v d k (with_place to) (changed_at to (put_first (is_exit (kind_in es d)) d) m)
    ∙ list_put (is_exit (kind_in es d)) v d to k m (omega (arith, length_map (left_out d) es))
    ∙ ap (λ t. put_at (is_exit (kind_in es d)) to d v k t) (list_left v d k es)

object_under : (d to k : ℕ) (w : Bool) (es : List Entry) → object_in (changed_at to (put_first w d) (map (left_out d) es)) k ≡ object_in es k
object_under d to k w es = object_change to k (put_first w d) (map (left_out d) es) (put_object w d) ∙ object_left d k es

pub object_down : (es : List Entry) (d to : ℕ) → object_in (set_down d to es) d ≡ option_map (with_place to) (object_in es d)
unfolding set_down
object_down es d to = object_changed d (with_place to) (changed_at to (put_first (is_exit (kind_in es d)) d) (map (left_out d) es)) ∙ ap (λ (o : Option Object). option_map (with_place to) o) (object_under d to d (is_exit (kind_in es d)) es)

pub object_not_down : (es : List Entry) (d to k : ℕ) → (k ≡ d → ⊥) → object_in (set_down d to es) k ≡ object_in es k
unfolding set_down
object_not_down es d to k ne = object_unchanged d k (with_place to) (changed_at to (put_first (is_exit (kind_in es d)) d) (map (left_out d) es)) ne ∙ object_under d to k (is_exit (kind_in es d)) es

pub mark_down : (es : List Entry) (d to k : ℕ) → mark_in (set_down d to es) k ≡ mark_in es k
unfolding set_down
mark_down es d to k =
    let m : List Entry = map (left_out d) es in
    mark_changed d k (with_place to) (changed_at to (put_first (is_exit (kind_in es d)) d) m)
    ∙ mark_change to k (put_first (is_exit (kind_in es d)) d) m (put_mark (is_exit (kind_in es d)) d)
    ∙ mark_left d k es

-- What `moved` changes.

pub length_moved : (es : List Entry) (d to : ℕ) → length (moved d to es) ≡ length es
unfolding moved
length_moved es d to = length_relinked es (set_down d to es) ∙ length_down es d to

pub list_moved : (v : Bool) (es : List Entry) (d to k : ℕ) → to < length es → list_in v (moved d to es) k ≡ put_at (is_exit (kind_in es d)) to d v k (without_number d (list_in v es k))
unfolding moved
list_moved v es d to k lt = list_relinked v es (set_down d to es) k ∙ list_down v es d to k lt

pub object_moved : (es : List Entry) (d to : ℕ) → object_in (moved d to es) d ≡ option_map (with_place to) (object_in es d)
unfolding moved
object_moved es d to = object_relinked es (set_down d to es) d ∙ object_down es d to

pub object_unmoved : (es : List Entry) (d to k : ℕ) → (k ≡ d → ⊥) → object_in (moved d to es) k ≡ object_in es k
unfolding moved
object_unmoved es d to k ne = object_relinked es (set_down d to es) k ∙ object_not_down es d to k ne

pub mark_moved : (es : List Entry) (d to k : ℕ) → mark_in (moved d to es) k ≡ mark_in es k
unfolding moved
mark_moved es d to k = mark_relinked es (set_down d to es) k ∙ mark_down es d to k

pub place_moved : (es : List Entry) (d to : ℕ) → d < length es → place_in (moved d to es) d ≡ Some to
unfolding place_in
place_moved es d to lt =
    let s : (x : Object) × (object_in es d ≡ Some x) = object_there es d lt in
    rw (object_moved es d to, s.1) refl

pub place_unmoved : (es : List Entry) (d to k : ℕ) → (k ≡ d → ⊥) → place_in (moved d to es) k ≡ place_in es k
place_unmoved es d to k ne = place_alike es (moved d to es) k (object_unmoved es d to k ne)

read_moved : {X : Type 0} (read : Option Object → X) (es : List Entry) (d to k : ℕ) → ((o : Object) → read (Some (with_place to o)) ≡ read (Some o)) → read (object_in (moved d to es) k) ≡ read (object_in es k)
read_moved read es d to k h = elim (cases_eq k d) [
  | inl e ↦ rw (e, object_moved es d to) (by_cases (object_in es d))
  | inr e ↦ rw (object_unmoved es d to k e) refl
]
  where
    by_cases : (o : Option Object) → read (option_map (with_place to) o) ≡ read o
    by_cases None = refl
    by_cases (Some o) = h o

pub kind_moved : (es : List Entry) (d to k : ℕ) → kind_in (moved d to es) k ≡ kind_in es k
unfolding kind_in
kind_moved es d to k = read_moved kind_seen es d to k (λ o. refl)

pub flags_moved : (es : List Entry) (d to k : ℕ) → flags_in (moved d to es) k ≡ flags_in es k
unfolding flags_in
flags_moved es d to k = read_moved flags_seen es d to k (λ o. refl)

pub fits_moved : (es : List Entry) (d to x p : ℕ) → fits_in (moved d to es) x p ≡ fits_in es x p
fits_moved es d to x p = fits_alike es (moved d to es) x p (kind_moved es d to x) (kind_moved es d to p) (vehicle_alike es (moved d to es) p (flags_moved es d to p))
