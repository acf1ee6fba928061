-- What the readers of records give where these are the stored form of objects.
use Rattle.std.proofs.Common.{◌≡◌, ℕ, ℤ, ◌<◌, ◌+◌, zero, suc, List, [], ◌∷◌, Option, Some, None, inl, inr, refl, sym, ◌∙◌, ap, length, arith, Bool, true, false}
use Rattle.std.specs.Prelude.{pos, negsuc, not, ◌&&◌, if◌then◌else◌}
use Rattle.std.proofs.lemmas.Bool.{and_from, false≢true, cases_lt}
use Rattle.std.specs.List.{slice_get}
use Rattle.std.specs.Option.{option_map, option_and_then, option_map_or}
use Rattle.muck_laws.proofs.Truths.{exits_agree}
use Rattle.muck_model.specs.declared.dbref.Dbref.{Dbref}
use Rattle.muck_model.specs.declared.dbref.Kind.TheVariants.{Garbage}
use Rattle.muck_model.proofs.Dbrefs.{same_eq}
use Rattle.spec_live.specs.declared.object.Object.{Object}
use Rattle.spec_live.specs.Flags.{has_flag, no_flags, vehicle}
use Rattle.spec_live.specs.Chain.{follower}
use Rattle.spec_live.specs.Objects.{Entry, dbref_of, index_at, index_of, same, is_exit, is_garbage, object_in, entry_list, list_in, kind_in, flags_in, place_in, is_vehicle_in}
pub use Rattle.spec_live.specs.Saving.{first_of_list}
use Rattle.spec_live.specs.Consistent.{StandsIn}
use Rattle.spec_live.proofs.Readers.{kind_past}
use Rattle.muck_codec.specs.declared.stored.Stored.{Stored}
use Rattle.muck_store.specs.Forms.{link_to_number, first_in_list, next_in, stored_of, stored_from, persist, next_of_stored}
use Rattle.muck_store.specs.Whole.{stored_kind, seats_in, record_stands_in, first_at}

-- Records by number.

length_from : (es : List Entry) (k : ℕ) (rest : List Entry) → length (stored_from es k rest) ≡ length rest
unfolding stored_from
length_from es k [] = refl
length_from es k (e ∷ rest) = ap suc (length_from es (suc k) rest)

pub length_persist : (es : List Entry) → length (persist es) ≡ length es
unfolding persist
length_persist es = length_from es 0 es

get_from : (es : List Entry) (k : ℕ) (rest : List Entry) (i j : ℕ) → k + i ≡ j → slice_get (stored_from es k rest) i ≡ option_map (stored_of es j) (slice_get rest i)
unfolding stored_from
get_from es k [] i j h = refl
get_from es k (e ∷ rest) zero j h = let q : k ≡ j = omega arith in ap (λ (z : ℕ). Some (stored_of es z e)) q
get_from es k (e ∷ rest) (suc i) j h = get_from es (suc k) rest i j (omega arith)

pub get_persist : (es : List Entry) (k : ℕ) → slice_get (persist es) k ≡ option_map (stored_of es k) (slice_get es k)
unfolding persist
get_persist es k = get_from es 0 es k k (omega arith)

-- An entry that is there.

pub object_at_entry : (es : List Entry) (k : ℕ) (e : Entry) → slice_get es k ≡ Some e → object_in es k ≡ Some e.object
unfolding object_in
object_at_entry es k e h = rw h refl

pub kind_there : (es : List Entry) (k : ℕ) (e : Entry) → slice_get es k ≡ Some e → kind_in es k ≡ e.object.kind
unfolding kind_in
kind_there es k e h = rw (object_at_entry es k e h) refl

pub place_there : (es : List Entry) (k : ℕ) (e : Entry) → slice_get es k ≡ Some e → place_in es k ≡ index_of e.object.place
unfolding place_in
place_there es k e h = rw (object_at_entry es k e h) refl

pub list_there : (es : List Entry) (v : Bool) (k : ℕ) (e : Entry) → slice_get es k ≡ Some e → list_in v es k ≡ entry_list v e
unfolding list_in
list_there es v k e h = rw h refl

pub alive_below : (es : List Entry) (d : ℕ) → is_garbage (kind_in es d) ≡ false → d < length es
alive_below es d h = elim (cases_lt d (length es)) [
  | inl lt ↦ lt
  | inr le ↦ absurd (false≢true (sym h ∙ ap (λ k. is_garbage k) (kind_past es d le)))
]

-- Kinds and seats.

kind_by : (es : List Entry) (k : ℕ) (o : Option Entry) → option_map_or (λ (s : Stored). s.kind) (option_map (stored_of es k) o) Garbage ≡ option_map_or (λ (x : Object). x.kind) (option_map (λ (e : Entry). e.object) o) Garbage
unfolding stored_of
kind_by es k None = refl
kind_by es k (Some e) = refl

pub kind_persist : (es : List Entry) (k : ℕ) → stored_kind (persist es) k ≡ kind_in es k
unfolding stored_kind kind_in object_in
kind_persist es k = rw (get_persist es k) (kind_by es k (slice_get es k))

seats_by : (es : List Entry) (k : ℕ) (o : Option Entry)
    → option_map_or (λ (s : Stored). has_flag vehicle s.flags) (option_map (stored_of es k) o) false ≡ has_flag vehicle (option_map_or (λ (x : Object). x.flags) (option_map (λ (e : Entry). e.object) o) no_flags)
unfolding stored_of
seats_by es k None = refl
seats_by es k (Some e) = refl

pub seats_persist : (es : List Entry) (k : ℕ) → seats_in (persist es) k ≡ is_vehicle_in es k
unfolding seats_in is_vehicle_in flags_in object_in
seats_persist es k = rw (get_persist es k) (seats_by es k (slice_get es k))

-- What stands behind an object.

index_link : (o : Option ℕ) → index_of (link_to_number o) ≡ o
index_link None = refl
index_link (Some n) = refl

no_place : (es : List Entry) (k : ℕ) → slice_get es k ≡ None → place_in es k ≡ None
unfolding place_in object_in
no_place es k h = rw h refl

pub no_next : (es : List Entry) (k : ℕ) → place_in es k ≡ None → next_in es k ≡ None
unfolding next_in
no_next es k h = rw h refl

next_by : (es : List Entry) (k : ℕ) (o : Option Entry) → slice_get es k ≡ o → option_and_then (λ (s : Stored). index_of s.next) (option_map (stored_of es k) o) ≡ next_in es k
unfolding stored_of
next_by es k None h = sym (no_next es k (no_place es k h))
next_by es k (Some e) h = index_link (next_in es k)

next_persist : (es : List Entry) (k : ℕ) → next_of_stored (persist es) k ≡ next_in es k
unfolding next_of_stored
next_persist es k = rw (get_persist es k) (next_by es k (slice_get es k) refl)

pub next_listed : (es : List Entry) (v : Bool) (p d : ℕ) → StandsIn es v p d → next_in es d ≡ follower d (list_in v es p)
unfolding next_in
next_listed es v p d s = rw s.place (ap (λ (b : Bool). follower d (list_in b es p)) s.kind)

pub next_follows : (es : List Entry) (v : Bool) (p d : ℕ) → StandsIn es v p d → next_of_stored (persist es) d ≡ follower d (list_in v es p)
next_follows es v p d s = next_persist es d ∙ next_listed es v p d s

-- Where a list begins.

pub index_first : (xs : List ℕ) → index_of (first_in_list xs) ≡ first_of_list xs
index_first [] = refl
index_first (x ∷ xs) = refl

first_by : (es : List Entry) (k : ℕ) (v : Bool) (o : Option Entry) → option_and_then (λ (s : Stored). index_of (if v then s.first_exit else s.first_content)) (option_map (stored_of es k) o) ≡ first_of_list (option_map_or (entry_list v) o [])
unfolding stored_of
first_by es k v None = refl
first_by es k true (Some e) = index_first e.exits
first_by es k false (Some e) = index_first e.contents

pub first_persist : (es : List Entry) (v : Bool) (k : ℕ) → first_at v (persist es) k ≡ first_of_list (list_in v es k)
unfolding list_in
first_persist es v k = rw (get_persist es k) (first_by es k v (slice_get es k))

-- What stands where.

whole_number : (z : ℤ) (n : ℕ) → index_at z ≡ Some n → z ≡ pos n
whole_number (pos m) n h = let e : m ≡ n = cc in ap (λ (x : ℕ). pos x) e
whole_number (negsuc m) n h = absurd (cc)

pub number_is : (d : Dbref) (n : ℕ) → index_of d ≡ Some n → d ≡ dbref_of n
number_is d n h = let make : ℤ → Dbref = λ z. record { 0 = z } in ap make (whole_number d.0 n h)

stands_by : (es : List Entry) (v : Bool) (p d : ℕ) (o : Option Entry) → option_and_then (λ (x : Object). index_of x.place) (option_map (λ (e : Entry). e.object) o) ≡ Some p
    → is_exit (option_map_or (λ (x : Object). x.kind) (option_map (λ (e : Entry). e.object) o) Garbage) ≡ v
    → option_map_or (λ (s : Stored). same s.place (dbref_of p) && (if is_exit s.kind then v else not v)) (option_map (stored_of es d) o) false ≡ true
unfolding stored_of
stands_by es v p d None place kind = absurd (cc (place))
stands_by es v p d (Some e) place kind =
    and_from (same e.object.place (dbref_of p)) (if is_exit e.object.kind then v else not v) (same_eq e.object.place (dbref_of p) (number_is e.object.place p place)) (exits_agree (is_exit e.object.kind) v kind)

pub stands_persist : (es : List Entry) (v : Bool) (p d : ℕ) → StandsIn es v p d → record_stands_in (persist es) v p d ≡ true
unfolding place_in kind_in object_in
stands_persist es v p d s = rw (get_persist es d) (stands_by es v p d (slice_get es d) s.place s.kind)
