-- What a dump leaves out of a table.
use Rattle.std.proofs.Common.{◌≡◌, ℕ, ◌+◌, ◌<◌, ◌≤◌, suc, List, [], ◌∷◌, ◌++◌, Option, Some, None, inl, inr, refl, sym, ◌∙◌, ap, subst, length, map, take, drop, arith, true, false, append_assoc, append-nil}
use Rattle.std.proofs.lemmas.List.{drop_all}
use Rattle.std.proofs.lemmas.Option.{slice_get_cases}
use Rattle.std.specs.List.{slice_get}
use Rattle.std.specs.Option.{option_map, option_and_then}
use Rattle.muck_laws.proofs.Places.{drop_here}
use Rattle.muck_prop.specs.Store.{PropMap}
use Rattle.muck_prop.specs.declared.value.PropValue.{PropValue}
use Rattle.spec_live.specs.declared.object.Object.{Object}
use Rattle.spec_live.specs.Objects.{Entry, index_of, list_in, object_in}
use Rattle.muck_codec.specs.declared.stored.Stored.{Stored}
use Rattle.muck_codec.specs.declared.stored.Property.{Property}
use Rattle.muck_store.specs.inner.Changes.{IsKept, LeavesOut, none, takes, leaves}
use Rattle.muck_store.specs.Forms.{property_of, properties_of, first_in_list, link_to_number, next_in, stored_of, stored_from, persist}
use Rattle.muck_db.specs.inner.Kept.{stored_at, HasFields, HasLinks, HasTexts}
use Rattle.muck_db.proofs.Cutting.{stored_with, record_is}

-- A record that has everything is what is stored.

same_stored : (es : List Entry) (k : ℕ) (o : Object) (s : Stored) → HasFields o s → HasLinks es k s → HasTexts o s
    → s ≡ stored_with k o (first_in_list (list_in false es k)) (first_in_list (list_in true es k)) (link_to_number (next_in es k))
same_stored es k o s f l t =
    rw (← l.dbref, ← f.kind, ← f.flags, ← f.level, ← f.owner, ← f.place, ← f.link, ← f.home, ← l.content, ← l.exit, ← l.next, ← t.name, ← t.props, ← t.lines, ← t.digest) refl

pub is_stored : (es : List Entry) (k : ℕ) (o : Object) (s : Stored) → object_in es k ≡ Some o → HasFields o s → HasLinks es k s → HasTexts o s → Some s ≡ stored_at es k
is_stored es k o s there f l t = ap (λ (x : Stored). Some x) (same_stored es k o s f l t) ∙ sym (record_is es k o there)

-- A walk over the objects: whatever is left out of the rest is left out of them all.

abbrev pub LeftOut : List Stored → List Entry → ℕ → List Stored → Type 0
LeftOut base es k records = (rest : List Stored) → LeavesOut base (stored_from es k (drop k es)) rest → LeavesOut base (persist es) (records ++ rest)

pub left_begins : (base : List Stored) (es : List Entry) (records : List Stored) → records ≡ [] → LeftOut base es 0 records
unfolding persist
left_begins base es records e rest h = subst (λ (rs : List Stored). LeavesOut base (stored_from es 0 es) (rs ++ rest)) (sym e) h

pub left_ends : (base : List Stored) (es : List Entry) (k : ℕ) (records : List Stored) → length es ≤ k → LeftOut base es k records → LeavesOut base (persist es) records
unfolding stored_from
left_ends base es k records past left =
    let nothing : LeavesOut base (stored_from es k (drop k es)) [] = subst (λ (xs : List Entry). LeavesOut base (stored_from es k xs) []) (sym (drop_all k es past)) none in
    subst (LeavesOut base (persist es)) (append-nil records) (left [] nothing)

-- what is stored from there on
from_here : (es : List Entry) (k : ℕ) (r : Stored) → Some r ≡ stored_at es k → stored_from es k (drop k es) ≡ r ∷ stored_from es (k + 1) (drop (k + 1) es)
unfolding stored_from
from_here es k r is =
    let one : suc k ≡ k + 1 = omega arith in
    elim (slice_get_cases es k).1 [
      | inl q ↦
          let found : Some r ≡ Some (stored_of es k q.0) = is ∙ ap (λ (o : Option Entry). option_map (stored_of es k) o) q.2 in
          let same : r ≡ stored_of es k q.0 = cc found in
          ap (λ (xs : List Entry). stored_from es k xs) (drop_here es k q.0 q.2)
          ∙ ap (λ (z : Stored). z ∷ stored_from es (suc k) (drop (suc k) es)) (sym same)
          ∙ ap (λ (n : ℕ). r ∷ stored_from es n (drop n es)) one
      | inr q ↦
          let nothing : Some r ≡ None = is ∙ ap (λ (o : Option Entry). option_map (stored_of es k) o) q.1 in
          absurd (cc nothing)
    ]

-- a record is taken
pub left_taken : (base : List Stored) (es : List Entry) (k : ℕ) (records : List Stored) (r : Stored) → Some r ≡ stored_at es k → LeftOut base es k records → LeftOut base es (k + 1) (records ++ r ∷ [])
left_taken base es k records r is left rest h =
    let more : LeavesOut base (stored_from es k (drop k es)) (r ∷ rest) = subst (λ (all : List Stored). LeavesOut base all (r ∷ rest)) (sym (from_here es k r is)) (takes r h) in
    subst (LeavesOut base (persist es)) (sym (append_assoc records (r ∷ []) rest)) (left (r ∷ rest) more)

kept_here : (base : List Stored) (es : List Entry) (k : ℕ) (r : Stored) → Some r ≡ stored_at es k → slice_get base k ≡ stored_at es k → IsKept base r
unfolding stored_of
kept_here base es k r is kept =
    elim (slice_get_cases es k).1 [
      | inl q ↦
          let found : Some r ≡ Some (stored_of es k q.0) = is ∙ ap (λ (o : Option Entry). option_map (stored_of es k) o) q.2 in
          let same : r ≡ stored_of es k q.0 = cc found in
          ap (λ (z : Stored). option_and_then (slice_get base) (index_of z.dbref)) same ∙ kept ∙ sym is
      | inr q ↦
          let nothing : Some r ≡ None = is ∙ ap (λ (o : Option Entry). option_map (stored_of es k) o) q.1 in
          absurd (cc nothing)
    ]

-- what is kept so is left out
pub left_over : (base : List Stored) (es : List Entry) (k : ℕ) (records : List Stored) → k < length es → slice_get base k ≡ stored_at es k → LeftOut base es k records → LeftOut base es (k + 1) records
left_over base es k records lt kept left rest h =
    elim (slice_get_cases es k).1 [
      | inl q ↦
          let r : Stored = stored_of es k q.0 in
          let is : Some r ≡ stored_at es k = sym (ap (λ (o : Option Entry). option_map (stored_of es k) o) q.2) in
          left rest (subst (λ (all : List Stored). LeavesOut base all rest) (sym (from_here es k r is)) (leaves r (kept_here base es k r is kept) h))
      | inr q ↦ absurd (omega (arith, q.0, lt))
    ]

-- A walk over the properties of an object, beside those that are kept.

-- the first i of the kept ones, and what is left, are what would be stored
pub record IsWalked (kept : List Property) (m : PropMap) (i : ℕ) (left : List (List (List ℕ) × PropValue)) : Type 0 where
  pub whole : properties_of m ≡ take i kept ++ map property_of left
  pub count : i + length left ≡ length kept
