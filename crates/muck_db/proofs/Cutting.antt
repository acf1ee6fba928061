-- What a dump hands to the log, of a table.
use Rattle.std.proofs.Common.{◌≡◌, ℕ, ◌<◌, List, [], ◌∷◌, Option, Some, None, inl, inr, refl, sym, ◌∙◌, ap, length, map, arith, Bool, true, false}
use Rattle.std.proofs.lemmas.Bool.{cases_eq, ne_eqb, eq-eqb}
use Rattle.std.proofs.lemmas.Option.{slice_get_cases}
use Rattle.std.specs.List.{slice_get}
use Rattle.std.specs.Option.{option_map, option_map_or, option_and_then}
use Rattle.std.specs.FinMap.{entries}
use Rattle.muck_model.specs.declared.dbref.Dbref.{Dbref}
use Rattle.muck_prop.specs.Store.{PropMap, path_behind}
use Rattle.muck_prop.specs.declared.value.PropValue.{PropValue}
use Rattle.spec_live.specs.declared.object.Object.{Object}
use Rattle.spec_live.specs.Chain.{walk, follower, IsChain, Ends, Member}
use Rattle.spec_live.specs.Objects.{Entry, dbref_of, garbage, is_exit, kind_in, place_in, entry_list, list_in, object_in}
use Rattle.spec_live.proofs.Chains.{walk_none, walk_next}
use Rattle.muck_codec.specs.declared.stored.Stored.{Stored}
use Rattle.muck_store.specs.Forms.{property_of, properties_of, first_in_list, link_to_number, next_in, stored_of}
use Rattle.muck_db.specs.declared.slot.Slot.{Slot}
use Rattle.muck_db.specs.inner.Slots.{shown, object_at, kept_at, next_at, first_at, place_at, list_at, entries_of, HasOrder}
use Rattle.muck_db.specs.inner.Shown.{dbref_at}
use Rattle.muck_db.specs.inner.Kept.{property_at}
use Rattle.muck_db.proofs.Readers.{object_in-entries_of, list_in-entries_of, place_in-entries_of}
use Rattle.muck_db.proofs.Linked.{chain_at, follower_is}
use Rattle.muck_db.proofs.Bridge.{order_chains}
use Rattle.muck_db.proofs.Showing.{place_standing}

-- Properties.

listed_stored : (es : List (List (List ℕ) × PropValue)) → map property_at (map (path_behind 0) es) ≡ map property_of es
listed_stored [] = refl
listed_stored (e ∷ es) = ap (λ ps. property_of e ∷ ps) (listed_stored es)

pub all_stored : (m : PropMap) → map property_at (map (path_behind 0) (entries m)) ≡ properties_of m
all_stored m = listed_stored (entries m)

-- Links.

first_walk : (n : ℕ) (f : ℕ → Option ℕ) (s : Option ℕ) → Ends n f s → first_in_list (walk n f s) ≡ dbref_at s
first_walk n f None h = ap (λ (l : List ℕ). first_in_list l) (walk_none n f)
first_walk n f (Some x) h = ap (λ (l : List ℕ). first_in_list l) (walk_next n f (Some x) (f x) x refl refl h)

-- the head of a list is where its chain begins
pub first_stored : (slots : List Slot) → HasOrder slots → (v : Bool) (k : ℕ) → first_in_list (list_in v (entries_of slots) k) ≡ dbref_at (first_at v slots k)
unfolding list_at
first_stored slots s v k = ap (λ (l : List ℕ). first_in_list l) (list_in-entries_of v slots k) ∙ first_walk (length slots) (next_at slots) (first_at v slots k) (s.ends v k)

next_placed : (es : List Entry) (k p : ℕ) → place_in es k ≡ Some p → next_in es k ≡ follower k (list_in (is_exit (kind_in es k)) es p)
unfolding next_in
next_placed es k p h = rw h refl

-- what has a place leads to what stands behind it
pub next_stored : (slots : List Slot) → HasOrder slots → (k p : ℕ) → place_at slots k ≡ Some p → next_in (entries_of slots) k ≡ next_at slots k
next_stored slots s k p place =
    let v : Bool = is_exit (kind_in (entries_of slots) k) in
    next_placed (entries_of slots) k p (place_in-entries_of slots k ∙ place)
    ∙ ap (λ (l : List ℕ). follower k l) (list_in-entries_of v slots p)
    ∙ follower_is (length slots) (next_at slots) (first_at v slots p) (list_at v slots p) k (chain_at slots (order_chains slots s) v p) (place_standing slots s p k place)

pub next_unplaced : (slots : List Slot) (k : ℕ) → place_at slots k ≡ None → next_in (entries_of slots) k ≡ None
unfolding next_in
next_unplaced slots k h = rw (place_in-entries_of slots k ∙ h) refl

-- a number as it is written in a record
pub linked : (at : Option ℕ) → dbref_at at ≡ link_to_number at
linked None = refl
linked (Some k) = refl

-- The object of a slot.

object_by : (o : Option Slot) (s : Slot) → o ≡ Some s → option_map shown o ≡ Some (option_map_or (λ x. x) (option_and_then (λ (z : Slot). z.object) o) garbage)
object_by None s e = absurd (cc e)
object_by (Some t) s e = refl

pub object_stored : (slots : List Slot) (k : ℕ) → k < length slots → object_in (entries_of slots) k ≡ Some (option_map_or (λ x. x) (kept_at slots k) garbage)
unfolding kept_at object_at
object_stored slots k lt = elim (slice_get_cases slots k).1 [
  | inl q ↦ object_in-entries_of slots k ∙ object_by (slice_get slots k) q.0 q.2
  | inr q ↦ absurd (omega (arith, q.0, lt))
]

-- Records.

abbrev pub stored_with : ℕ → Object → Dbref → Dbref → Dbref → Stored
stored_with k o content exit next = record {
  dbref = dbref_of k;
  kind = o.kind;
  flags = o.flags;
  level = o.level;
  owner = o.owner;
  place = o.place;
  link = o.link;
  home = o.home;
  first_content = content;
  first_exit = exit;
  next = next;
  name = o.name;
  props = properties_of o.props;
  lines = o.lines;
  digest = o.digest;
}

record_by : (es : List Entry) (k : ℕ) (o : Object) (q : Option Entry) → option_map (λ (e : Entry). e.object) q ≡ Some o
    → option_map (stored_of es k) q ≡ Some (stored_with k o (first_in_list (option_map_or (entry_list false) q [])) (first_in_list (option_map_or (entry_list true) q [])) (link_to_number (next_in es k)))
unfolding stored_of
record_by es k o None h = absurd (cc h)
record_by es k o (Some e) h =
    let same : e.object ≡ o = cc h in
    ap (λ (x : Object). Some (stored_with k x (first_in_list e.contents) (first_in_list e.exits) (link_to_number (next_in es k)))) same

pub record_is : (es : List Entry) (k : ℕ) (o : Object) → object_in es k ≡ Some o
    → option_map (stored_of es k) (slice_get es k) ≡ Some (stored_with k o (first_in_list (list_in false es k)) (first_in_list (list_in true es k)) (link_to_number (next_in es k)))
unfolding object_in list_in
record_is es k o h = record_by es k o (slice_get es k) h
