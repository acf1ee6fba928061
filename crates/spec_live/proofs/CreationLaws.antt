-- A new object keeps the world consistent.
use Rattle.std.proofs.Common.{◌≡◌, ℕ, ◌+◌, ◌<◌, ◌≤◌, zero, suc, List, [], ◌∷◌, ◌++◌, Option, Some, None, ◌⊎◌, inl, inr, refl, sym, ◌∙◌, ap, subst, length, arith, Result, Ok, Err, ltb, Bool, true, false, cond, length-append}
use Rattle.std.proofs.lemmas.Bool.{cases_eq, ltb-true, ne_eqb, eq-eqb, false≢true}
use Rattle.std.specs.List.{slice_get}
use Rattle.std.specs.Option.{option_map, option_and_then, option_map_or}
use Rattle.muck_laws.proofs.Places.{get_more, got_last, read_more}
use Rattle.muck_model.specs.declared.dbref.Dbref.{Dbref}
use Rattle.muck_model.specs.declared.dbref.Kind.{Kind}
use Rattle.muck_model.specs.declared.dbref.Kind.TheVariants.{Room, Thing, Exit, Player, Program, Garbage}
use Rattle.spec_live.specs.declared.object.Object.{Object}
use Rattle.spec_live.specs.declared.fault.DbFault.{DbFault}
use Rattle.spec_live.specs.declared.fault.DbFault.TheVariants.{NoSuchObject, WrongKind, WorldFull}
use Rattle.spec_live.specs.Chain.{walk, IsChain, Ends, Member}
use Rattle.spec_live.specs.Flags.{no_flags}
use Rattle.spec_live.specs.Objects.{Entry, dbref_of, index_of, is_player, is_garbage, may_stand, garbage, object_in, entry_list, list_in, place_in, kind_in, flags_in, is_vehicle_in, fits_in, number_in, places_from, changed_at, with_object}
use Rattle.spec_live.specs.Moving.{moved}
use Rattle.spec_live.specs.Setting.{may_link, may_live}
use Rattle.spec_live.specs.Making.{objects_most, free_in, blank_entry, objects_grown, new_object, created, may_make, make_judged, owner_judged, create_check}
use Rattle.spec_live.specs.Consistent.{HasOwner, HasLink, HasHome, IsTied, IsOrdered, IsConsistent, MayMove}
use Rattle.spec_live.proofs.Lists.{length_changed}
use Rattle.spec_live.proofs.KindLaws.{only_garbage, none_in_garbage, standing_alive, player_alive, linked_alive, home_alive}
use Rattle.spec_live.proofs.Readers.{kind_alike, flags_alike, vehicle_alike, object_named, object_unnamed, list_named}
use Rattle.spec_live.proofs.Orders.{ordered_alike, ordered_moved, placed_moved, nobodys_place, no_place}
use Rattle.spec_live.proofs.Ties.{IsTidy, tidy_moved, tied_alike, consistent_tidy, consistent_from, garbage_tied}
use Rattle.spec_live.proofs.Checks.{IsThere, number_there}

-- One more number.

pub object_more : (es : List Entry) (k : ℕ) → (k ≡ length es → ⊥) → object_in (es ++ blank_entry ∷ []) k ≡ object_in es k
unfolding object_in
object_more es k ne = ap (λ (o : Option Entry). option_map (λ (e : Entry). e.object) o) (get_more es blank_entry k ne)

pub object_last : (es : List Entry) → object_in (es ++ blank_entry ∷ []) (length es) ≡ Some garbage
unfolding object_in blank_entry
object_last es = ap (λ (o : Option Entry). option_map (λ (e : Entry). e.object) o) (got_last es blank_entry)

pub list_more : (v : Bool) (es : List Entry) (k : ℕ) → list_in v (es ++ blank_entry ∷ []) k ≡ list_in v es k
unfolding list_in blank_entry
list_more true es k = read_more (λ (o : Option Entry). option_map_or (entry_list true) o []) es blank_entry k refl
list_more false es k = read_more (λ (o : Option Entry). option_map_or (entry_list false) o []) es blank_entry k refl

pub place_more : (es : List Entry) (k : ℕ) → place_in (es ++ blank_entry ∷ []) k ≡ place_in es k
unfolding place_in object_in blank_entry garbage
place_more es k = read_more (λ (o : Option Entry). option_and_then (λ (x : Object). index_of x.place) (option_map (λ (e : Entry). e.object) o)) es blank_entry k refl

pub kind_more : (es : List Entry) (k : ℕ) → kind_in (es ++ blank_entry ∷ []) k ≡ kind_in es k
unfolding kind_in object_in blank_entry garbage
kind_more es k = read_more (λ (o : Option Entry). option_map_or (λ (x : Object). x.kind) (option_map (λ (e : Entry). e.object) o) Garbage) es blank_entry k refl

pub flags_more : (es : List Entry) (k : ℕ) → flags_in (es ++ blank_entry ∷ []) k ≡ flags_in es k
unfolding flags_in object_in blank_entry garbage
flags_more es k = read_more (λ (o : Option Entry). option_map_or (λ (x : Object). x.flags) (option_map (λ (e : Entry). e.object) o) no_flags) es blank_entry k refl

-- what looks alike through the readers of kinds and flags
fits_same : (es fs : List Entry) (d p : ℕ) → ((k : ℕ) → kind_in fs k ≡ kind_in es k) → flags_in fs p ≡ flags_in es p → fits_in fs d p ≡ fits_in es d p
unfolding fits_in
fits_same es fs d p kinds flags = rw (kinds d, kinds p, vehicle_alike es fs p flags) refl

ordered_more : (es : List Entry) → length es < 100000 → IsOrdered es → IsOrdered (es ++ blank_entry ∷ [])
ordered_more es few c =
    let n : length (es ++ blank_entry ∷ []) ≡ length es + 1 = length-append es (blank_entry ∷ []) in
    ordered_alike es (es ++ blank_entry ∷ []) (omega arith) (omega arith) (place_more es) (λ v p. list_more v es p) (λ x. inr (kind_more es x))
    (λ d p h. fits_same es (es ++ blank_entry ∷ []) d p (kind_more es) (flags_more es p) ∙ c.kinds d p h) (kind_more es 0) c

-- The grown table.

pub grown_same : (n : ℕ) (es : List Entry) → (n ≡ length es → ⊥) → objects_grown n es ≡ es
unfolding objects_grown
grown_same n es ne = rw (ne_eqb n (length es) ne) refl

pub grown_more : (n : ℕ) (es : List Entry) → n ≡ length es → objects_grown n es ≡ es ++ blank_entry ∷ []
unfolding objects_grown
grown_more n es e = rw (eq-eqb n (length es) e) refl

pub grown_kind : (n k : ℕ) (es : List Entry) → kind_in (objects_grown n es) k ≡ kind_in es k
grown_kind n k es = elim (cases_eq n (length es)) [ inl e ↦ ap (λ (z : List Entry). kind_in z k) (grown_more n es e) ∙ kind_more es k | inr e ↦ ap (λ (z : List Entry). kind_in z k) (grown_same n es e) ]

pub grown_place : (n k : ℕ) (es : List Entry) → place_in (objects_grown n es) k ≡ place_in es k
grown_place n k es = elim (cases_eq n (length es)) [ inl e ↦ ap (λ (z : List Entry). place_in z k) (grown_more n es e) ∙ place_more es k | inr e ↦ ap (λ (z : List Entry). place_in z k) (grown_same n es e) ]

pub grown_flags : (n k : ℕ) (es : List Entry) → flags_in (objects_grown n es) k ≡ flags_in es k
grown_flags n k es = elim (cases_eq n (length es)) [ inl e ↦ ap (λ (z : List Entry). flags_in z k) (grown_more n es e) ∙ flags_more es k | inr e ↦ ap (λ (z : List Entry). flags_in z k) (grown_same n es e) ]

last_object : (es : List Entry) (k : ℕ) (o : Object) → object_in (es ++ blank_entry ∷ []) k ≡ Some o → (object_in es k ≡ Some o) ⊎ (o ≡ garbage)
last_object es k o h = elim (cases_eq k (length es)) [
  | inl e ↦ inr (cc (h, ap (λ z. object_in (es ++ blank_entry ∷ []) z) e, object_last es))
  | inr e ↦ inl (sym (object_more es k e) ∙ h)
]

grown_object : (n k : ℕ) (es : List Entry) (o : Object) → object_in (objects_grown n es) k ≡ Some o → (object_in es k ≡ Some o) ⊎ (o ≡ garbage)
grown_object n k es o h = elim (cases_eq n (length es)) [
  | inl e ↦ last_object es k o (sym (ap (λ (z : List Entry). object_in z k) (grown_more n es e)) ∙ h)
  | inr e ↦ inl (sym (ap (λ (z : List Entry). object_in z k) (grown_same n es e)) ∙ h)
]

pub ordered_grown : (es : List Entry) (n : ℕ) → n < 100000 → IsOrdered es → IsOrdered (objects_grown n es)
ordered_grown es n few c =
    let P : List Entry → Type 0 = λ z. IsOrdered z in
    elim (cases_eq n (length es)) [
      | inl e ↦ subst P (sym (grown_more n es e)) (ordered_more es (omega (arith, e)) c)
      | inr e ↦ subst P (sym (grown_same n es e)) c
    ]

pub tidy_grown : (es : List Entry) (n : ℕ) → IsTidy es → IsTidy (objects_grown n es)
tidy_grown es n c =
    let new : List Entry = objects_grown n es in
    let kinds : (k : ℕ) → kind_in new k ≡ kind_in es k = λ k. grown_kind n k es in
    let first : kind_in new 1 ≡ Player = kinds 1 ∙ c.first in
    record {
      tied = λ k o h. elim (grown_object n k es o h) [
        | inl q ↦
            tied_alike es new o o (record { kind = refl; owner = refl; link = refl; home = refl }) (λ m e t. ap (λ z. is_player z) (kinds m) ∙ t) (λ m e t. ap (λ z. may_link o.kind z) (kinds m) ∙ t) (λ m e t. ap (λ z. may_live o.kind z) (kinds m) ∙ t) (c.tied k o q)
        | inr q ↦ let P : Object → Type 0 = λ z. IsTied new z in subst P (sym q) (garbage_tied new first)
      ];
      blank = λ k o h g. elim (grown_object n k es o h) [ inl q ↦ c.blank k o q g | inr q ↦ q ];
      first = first;
    }

-- An object at a number of garbage.

pub named_place : (es : List Entry) (n k : ℕ) (kind : Kind) (name : List ℕ) (owner : Dbref) → n < length es → place_in es n ≡ None → place_in (changed_at n (with_object (new_object n kind name owner)) es) k ≡ place_in es k
unfolding place_in new_object
named_place es n k kind name owner lt none = elim (cases_eq k n) [
  | inl e ↦ rw (e, none, object_named n (new_object n kind name owner) es lt) refl
  | inr e ↦ rw (object_unnamed n k (new_object n kind name owner) es e) refl
]

pub named_kind : (es : List Entry) (n : ℕ) (kind : Kind) (name : List ℕ) (owner : Dbref) → n < length es → kind_in (changed_at n (with_object (new_object n kind name owner)) es) n ≡ kind
unfolding kind_in new_object
named_kind es n kind name owner lt = rw (object_named n (new_object n kind name owner) es lt) refl

pub other_kind : (es : List Entry) (n k : ℕ) (o : Object) → (k ≡ n → ⊥) → kind_in (changed_at n (with_object o) es) k ≡ kind_in es k
other_kind es n k o ne = kind_alike es (changed_at n (with_object o) es) k (object_unnamed n k o es ne)

pub other_vehicle : (es : List Entry) (n k : ℕ) (o : Object) → (k ≡ n → ⊥) → is_vehicle_in (changed_at n (with_object o) es) k ≡ is_vehicle_in es k
other_vehicle es n k o ne = vehicle_alike es (changed_at n (with_object o) es) k (flags_alike es (changed_at n (with_object o) es) k (object_unnamed n k o es ne))

not_room : (es : List Entry) → IsOrdered es → (n : ℕ) → kind_in es n ≡ Garbage → 0 ≡ n → ⊥
not_room es c n g e = absurd (cc (c.room, ap (λ z. kind_in es z) e, g))

other_fits : (es : List Entry) (n d p : ℕ) (o : Object) → (d ≡ n → ⊥) → (p ≡ n → ⊥) → fits_in (changed_at n (with_object o) es) d p ≡ fits_in es d p
unfolding fits_in
other_fits es n d p o u v = rw (other_kind es n d o u, other_kind es n p o v, other_vehicle es n p o v) refl

pub ordered_named : (es : List Entry) (n : ℕ) (kind : Kind) (name : List ℕ) (owner : Dbref) → n < length es → kind_in es n ≡ Garbage → IsOrdered es → IsOrdered (changed_at n (with_object (new_object n kind name owner)) es)
ordered_named es n kind name owner lt g c =
    let o : Object = new_object n kind name owner in
    let new : List Entry = changed_at n (with_object o) es in
    let m : length new ≡ length es = length_changed es n (with_object o) in
    ordered_alike es new (omega (arith, m, c.few)) (omega (arith, m)) (λ x. named_place es n x kind name owner lt (no_place es c n g)) (λ v p. list_named v n p o es)
    (λ x. elim (cases_eq x n) [ inl e ↦ inl (ap (λ z. place_in es z) e ∙ no_place es c n g) | inr e ↦ inr (other_kind es n x o e) ])
    (λ d p h. other_fits es n d p o (λ e. cc (h, ap (λ z. place_in es z) e, no_place es c n g)) (λ e. nobodys_place es c n d g (h ∙ ap (λ z. Some z) e)) ∙ c.kinds d p h)
    (other_kind es n 0 o (not_room es c n g)) c

-- a player owns itself, and a player owns what isn't a player
abbrev pub OwnedBy : List Entry → Kind → Dbref → Type 0
OwnedBy es kind owner = (is_player kind ≡ true) ⊎ ((k : ℕ) × (owner ≡ dbref_of k) × (is_player (kind_in es k) ≡ true))

new_owner : (es : List Entry) (n : ℕ) (kind : Kind) (name : List ℕ) (owner : Dbref) → kind_in es n ≡ kind → OwnedBy es kind owner → HasOwner es (new_object n kind name owner)
unfolding new_object
new_owner es n Player name owner k o = (n, refl, ap (λ z. is_player z) k)
new_owner es n Room name owner k o = elim o [ inl q ↦ absurd (false≢true q) | inr q ↦ q ]
new_owner es n Thing name owner k o = elim o [ inl q ↦ absurd (false≢true q) | inr q ↦ q ]
new_owner es n Exit name owner k o = elim o [ inl q ↦ absurd (false≢true q) | inr q ↦ q ]
new_owner es n Program name owner k o = elim o [ inl q ↦ absurd (false≢true q) | inr q ↦ q ]
new_owner es n Garbage name owner k o = elim o [ inl q ↦ absurd (false≢true q) | inr q ↦ q ]

new_home : (es : List Entry) (n : ℕ) (kind : Kind) (name : List ℕ) (owner : Dbref) → kind_in es 0 ≡ Room → HasHome es (new_object n kind name owner)
unfolding new_object
new_home es n Player name owner room = (0, refl, ap (λ z. may_live Player z) room)
new_home es n Thing name owner room = (0, refl, ap (λ z. may_live Thing z) room)
new_home es n Room name owner room = refl
new_home es n Exit name owner room = refl
new_home es n Program name owner room = refl
new_home es n Garbage name owner room = refl

new_link : (es : List Entry) (n : ℕ) (kind : Kind) (name : List ℕ) (owner : Dbref) → HasLink es (new_object n kind name owner)
unfolding new_object
new_link es n kind name owner = inl refl

pub new_tied : (es : List Entry) (n : ℕ) (kind : Kind) (name : List ℕ) (owner : Dbref) → kind_in es n ≡ kind → kind_in es 0 ≡ Room → OwnedBy es kind owner → IsTied es (new_object n kind name owner)
new_tied es n kind name owner k room o = record { owner = new_owner es n kind name owner k o; link = new_link es n kind name owner; home = new_home es n kind name owner room }

new_kind : (n : ℕ) (kind : Kind) (name : List ℕ) (owner : Dbref) (o : Object) → o ≡ new_object n kind name owner → o.kind ≡ kind
unfolding new_object
new_kind n kind name owner o e = ap (λ z. z.kind) e

pub tidy_named : (es : List Entry) (n : ℕ) (kind : Kind) (name : List ℕ) (owner : Dbref) → n < length es → kind_in es n ≡ Garbage → kind_in es 0 ≡ Room → is_garbage kind ≡ false → OwnedBy es kind owner
    → IsTidy es → IsTidy (changed_at n (with_object (new_object n kind name owner)) es)
tidy_named es n kind name owner lt g room alive owned c =
    let new : List Entry = changed_at n (with_object (new_object n kind name owner)) es in
    let other : (k : ℕ) → is_garbage (kind_in es k) ≡ false → kind_in new k ≡ kind_in es k =
    λ k h. other_kind es n k (new_object n kind name owner) (λ e. false≢true (sym h ∙ ap (λ z. is_garbage z) (ap (λ z. kind_in es z) e ∙ g))) in
    let player : (k : ℕ) → is_player (kind_in es k) ≡ true → is_player (kind_in new k) ≡ true = λ k h. ap (λ z. is_player z) (other k (player_alive (kind_in es k) h)) ∙ h in
    let is_new : (k : ℕ) (o : Object) → k ≡ n → object_in new k ≡ Some o → o ≡ new_object n kind name owner =
    λ k o e h. cc (h, ap (λ z. object_in new z) e, object_named n (new_object n kind name owner) es lt) in
    let mine : OwnedBy new kind owner = elim owned [ inl q ↦ inl q | inr q ↦ inr (q.0, q.1, player q.0 q.2) ] in
    let zeroth : kind_in new 0 ≡ Room = other 0 (ap (λ z. is_garbage z) room) ∙ room in
    record {
      tied = λ k o h. elim (cases_eq k n) [
        | inl e ↦
            let P : Object → Type 0 = λ z. IsTied new z in
            subst P (sym (is_new k o e h)) (new_tied new n kind name owner (named_kind es n kind name owner lt) zeroth mine)
        | inr e ↦ tied_alike es new o o (record { kind = refl; owner = refl; link = refl; home = refl }) (λ m q t. player m t)
            (λ m q t. ap (λ z. may_link o.kind z) (other m (linked_alive o.kind (kind_in es m) t)) ∙ t) (λ m q t. ap (λ z. may_live o.kind z) (other m (home_alive o.kind (kind_in es m) t)) ∙ t)
            (c.tied k o (sym (object_unnamed n k (new_object n kind name owner) es e) ∙ h))
      ];
      blank = λ k o h q. elim (cases_eq k n) [
        | inl e ↦ absurd (false≢true (sym alive ∙ ap (λ z. is_garbage z) (sym (new_kind n kind name owner o (is_new k o e h))) ∙ q))
        | inr e ↦ c.blank k o (sym (object_unnamed n k (new_object n kind name owner) es e) ∙ h) q
      ];
      first = other 1 (ap (λ z. is_garbage z) c.first) ∙ c.first;
    }

member_led : (n : ℕ) (f : ℕ → Option ℕ) (s : Option ℕ) (xs : List ℕ) (y : ℕ) → IsChain n f s xs → Member y xs → (s ≡ Some y) ⊎ ((x : ℕ) × (f x ≡ Some y))
unfolding IsChain Member
member_led n f s [] y h m = elim m [ ]
member_led n f s (x ∷ xs) y h m = elim m [
  | inl e ↦ inl (h.0 ∙ ap (λ z. Some z) (sym e))
  | inr r ↦ elim (member_led n f (f x) xs y h.2 r) [ inl q ↦ inr (x, q) | inr q ↦ inr q ]
]

-- it may go where its kind may be
pub may_begin : (es : List Entry) (n to : ℕ) (kind : Kind) (name : List ℕ) (owner : Dbref) → IsOrdered es → n < length es → to < length es → kind_in es n ≡ Garbage → may_stand kind (kind_in es to) (is_vehicle_in es to) ≡ true
    → MayMove (changed_at n (with_object (new_object n kind name owner)) es) n to
unfolding places_from Ends fits_in
may_begin es n to kind name owner c lt place g fits =
    let o : Object = new_object n kind name owner in
    let new : List Entry = changed_at n (with_object o) es in
    let m : length new ≡ length es = length_changed es n (with_object o) in
    let other : to ≡ n → ⊥ = λ e. none_in_garbage kind (is_vehicle_in es to) (let P : Kind → Type 0 = λ k. may_stand kind k (is_vehicle_in es to) ≡ true in subst P (ap (λ z. kind_in es z) e ∙ g) fits) in
    let c' : IsOrdered new = ordered_named es n kind name owner lt g c in
    record {
      known = omega (arith, m);
      place = omega (arith, m);
      lower = λ e. not_room es c n g (sym e);
      fits = rw (named_kind es n kind name owner lt, other_kind es n to o other, other_vehicle es n to o other) fits;
      free = λ h. elim (member_led (length new) (place_in new) (Some to) (walk (length new) (place_in new) (Some to)) n (c'.up to (omega (arith, m))) h) [
        | inl e ↦ other (cc (e))
        | inr q ↦ nobodys_place es c n q.0 g (sym (named_place es n q.0 kind name owner lt (no_place es c n g)) ∙ q.1)
      ];
    }

-- The number that is taken.

pub free_is : (es : List Entry) (r : ℕ) → r ≤ length es → ((k : ℕ) → k < r → is_garbage (kind_in es k) ≡ false) → (r < length es → is_garbage (kind_in es r) ≡ true) → r ≡ free_in es
unfolding free_in kind_in object_in
free_is [] r le before here = omega arith
free_is (e ∷ es) zero le before here = rw (here (omega arith)) refl
free_is (e ∷ es) (suc r) le before here = rw (before 0 (omega arith)) (ap suc (free_is es r (omega arith) (λ k lt. before (suc k) (omega arith)) (λ lt. here (omega arith))))

pub free_le : (es : List Entry) → free_in es ≤ length es
unfolding free_in
free_le [] = omega arith
free_le (e ∷ es) = by_cases (is_garbage e.object.kind) (free_le es)
  where
    by_cases : (b : Bool) → free_in es ≤ length es → cond b 0 (suc (free_in es)) ≤ suc (length es)
    by_cases true h = omega arith
    by_cases false h = omega arith

pub free_garbage : (es : List Entry) → kind_in es (free_in es) ≡ Garbage
unfolding free_in kind_in object_in
free_garbage [] = refl
free_garbage (e ∷ es) = by_cases (is_garbage e.object.kind) refl (free_garbage es)
  where
    by_cases : (b : Bool) → is_garbage e.object.kind ≡ b → option_map_or (λ (o : Object). o.kind) (option_map (λ (x : Entry). x.object) (slice_get es (free_in es))) Garbage ≡ Garbage
        → option_map_or (λ (o : Object). o.kind) (option_map (λ (x : Entry). x.object) (slice_get (e ∷ es) (cond b 0 (suc (free_in es))))) Garbage ≡ Garbage
    by_cases true q h = only_garbage e.object.kind q
    by_cases false q h = h

-- What a passed check of a creation says.
pub record MayCreate (es : List Entry) (kind : Kind) (owner : Dbref) (n to : ℕ) : Type 0 where
  pub free : n ≡ free_in es
  pub few : n < 100000
  pub place : to < length es
  pub fits : may_stand kind (kind_in es to) (is_vehicle_in es to) ≡ true
  pub owned : OwnedBy es kind owner

owner_by : (es : List Entry) (kind : Kind) (owner : Dbref) (b : Bool) (o : Option ℕ) → is_player kind ≡ b → ((m : ℕ) → o ≡ Some m → IsThere es owner m)
    → cond b (Some true) (option_map_or (λ n. Some (is_player (kind_in es n))) o None) ≡ Some true → OwnedBy es kind owner
owner_by es kind owner true o e there h = inl e
owner_by es kind owner false None e there h = absurd (cc (h))
owner_by es kind owner false (Some m) e there h = inr (m, (there m refl).is, cc (h))

owner_ok : (es : List Entry) (kind : Kind) (owner : Dbref) → owner_judged kind owner es ≡ Some true → OwnedBy es kind owner
unfolding owner_judged
owner_ok es kind owner h = owner_by es kind owner (is_player kind) (number_in es owner) refl (λ m e. number_there es owner m e) h

made_by : (es : List Entry) (kind : Kind) (owner : Dbref) (owned : Bool) (to : ℕ) (p : ℕ × ℕ) (a b : Bool) → (owned ≡ true → OwnedBy es kind owner) → to < length es → may_stand kind (kind_in es to) (is_vehicle_in es to) ≡ a → ltb (free_in es) 100000 ≡ b
    → ◌≡◌ {A = Result (ℕ × ℕ) DbFault} (cond (cond a owned false) (cond b (Ok (free_in es, to)) (Err WorldFull)) (Err WrongKind)) (Ok p) → MayCreate es kind owner p.0 p.1
made_by es kind owner owned to p false b own lt fits few h = absurd (cc (h))
made_by es kind owner false to p true b own lt fits few h = absurd (cc (h))
made_by es kind owner true to p true false own lt fits few h = absurd (cc (h))
made_by es kind owner true to p true true own lt fits few h =
    let pair : ◌≡◌ {A = ℕ × ℕ} (free_in es, to) p = cc (h) in
    let P : ℕ × ℕ → Type 0 = λ u. MayCreate es kind owner u.0 u.1 in
    subst P pair (record { free = refl; few = ltb-true (free_in es) 100000 few; place = lt; fits = fits; owned = own refl })

made_ok : (es : List Entry) (kind : Kind) (owner : Dbref) (owned : Bool) (to : ℕ) (p : ℕ × ℕ) → (owned ≡ true → OwnedBy es kind owner) → to < length es → make_judged kind owned to es ≡ Ok p → MayCreate es kind owner p.0 p.1
unfolding make_judged may_make objects_most
made_ok es kind owner owned to p own lt h = made_by es kind owner owned to p _ _ own lt refl refl h

create_by : (es : List Entry) (kind : Kind) (owner : Dbref) (a : Option Bool) (b : Option ℕ) (p : ℕ × ℕ) → ((o : Bool) → a ≡ Some o → o ≡ true → OwnedBy es kind owner) → ((m : ℕ) → b ≡ Some m → m < length es)
    → ◌≡◌ {A = Result (ℕ × ℕ) DbFault} (option_map_or (λ owned. option_map_or (λ to. make_judged kind owned to es) b (Err NoSuchObject)) a (Err NoSuchObject)) (Ok p) → MayCreate es kind owner p.0 p.1
create_by es kind owner None b p own known h = absurd (cc (h))
create_by es kind owner (Some o) None p own known h = absurd (cc (h))
create_by es kind owner (Some o) (Some m) p own known h = made_ok es kind owner o m p (λ e. own o refl e) (known m refl) h

pub may_create : (kind : Kind) (owner place : Dbref) (es : List Entry) (p : ℕ × ℕ) → create_check kind owner place es ≡ Ok p → MayCreate es kind owner p.0 p.1
unfolding create_check
may_create kind owner place es p h =
    create_by es kind owner (owner_judged kind owner es) (number_in es place) p (λ o e t. owner_ok es kind owner (e ∙ ap (λ z. Some z) t)) (λ m e. (number_there es place m e).known) h

pub grown_long : (es : List Entry) (n : ℕ) → n ≡ free_in es → (n < length (objects_grown n es)) × (length es ≤ length (objects_grown n es))
grown_long es n f = elim (cases_eq n (length es)) [
  | inl e ↦ rw (grown_more n es e) (omega (arith, length-append es (blank_entry ∷ []), e), omega (arith, length-append es (blank_entry ∷ [])))
  | inr e ↦ rw (grown_same n es e) (omega (arith, free_le es, f, e), omega arith)
]

-- what is known before the number is named
pub record Begins (es : List Entry) (kind : Kind) (owner : Dbref) (n to : ℕ) : Type 0 where
  pub known : n < length (objects_grown n es)
  pub place : to < length (objects_grown n es)
  pub garbage : kind_in (objects_grown n es) n ≡ Garbage
  pub fits : may_stand kind (kind_in (objects_grown n es) to) (is_vehicle_in (objects_grown n es) to) ≡ true
  pub owned : OwnedBy (objects_grown n es) kind owner

pub begins : (es : List Entry) (kind : Kind) (owner : Dbref) (n to : ℕ) → MayCreate es kind owner n to → Begins es kind owner n to
begins es kind owner n to m = record {
  known = (grown_long es n m.free).0;
  place = omega (arith, m.place, (grown_long es n m.free).1);
  garbage = grown_kind n n es ∙ ap (λ z. kind_in es z) m.free ∙ free_garbage es;
  fits = rw (grown_kind n to es, vehicle_alike es (objects_grown n es) to (grown_flags n to es)) m.fits;
  owned = elim m.owned [ inl q ↦ inl q | inr q ↦ inr (q.0, q.1, ap (λ z. is_player z) (grown_kind n q.0 es) ∙ q.2) ];
}

-- the new object may be moved to its place
pub create_checked : (kind : Kind) (name : List ℕ) (owner place : Dbref) (es : List Entry) (p : ℕ × ℕ) → create_check kind owner place es ≡ Ok p → IsOrdered es
    → MayMove (changed_at p.0 (with_object (new_object p.0 kind name owner)) (objects_grown p.0 es)) p.0 p.1
create_checked kind name owner place es p h c =
    let m : MayCreate es kind owner p.0 p.1 = may_create kind owner place es p h in
    let b : Begins es kind owner p.0 p.1 = begins es kind owner p.0 p.1 m in
    may_begin (objects_grown p.0 es) p.0 p.1 kind name owner (ordered_grown es p.0 m.few c) b.known b.place b.garbage b.fits

consistent_made : (es : List Entry) (kind : Kind) (name : List ℕ) (owner : Dbref) (n to : ℕ) → MayCreate es kind owner n to → IsConsistent es → IsConsistent (created n kind name owner to es)
unfolding created
consistent_made es kind name owner n to m c =
    let b : Begins es kind owner n to = begins es kind owner n to m in
    let g : List Entry = objects_grown n es in
    let o : Object = new_object n kind name owner in
    let mid : List Entry = changed_at n (with_object o) g in
    let ordered : IsOrdered g = ordered_grown es n m.few c.ordered in
    let may : MayMove mid n to = may_begin g n to kind name owner ordered b.known b.place b.garbage b.fits in
    let alive : is_garbage kind ≡ false = standing_alive kind (kind_in es to) (is_vehicle_in es to) m.fits in
    consistent_from (moved n to mid) (ordered_moved mid n to may (ordered_named g n kind name owner b.known b.garbage ordered))
    (placed_moved mid n to may.known (λ x ne none. elim (c.placed x (sym (grown_place n x es) ∙ sym (named_place g n x kind name owner b.known (no_place g ordered n b.garbage)) ∙ none)) [
      | inl q ↦ inl q
      | inr q ↦ inr (other_kind g n x o ne ∙ grown_kind n x es ∙ q)
    ]))
    (tidy_moved mid n to may (tidy_named g n kind name owner b.known b.garbage (ordered.room) alive b.owned (tidy_grown es n (consistent_tidy es c))))

pub consistent_created : (kind : Kind) (name : List ℕ) (owner place : Dbref) (es : List Entry) (p : ℕ × ℕ) → create_check kind owner place es ≡ Ok p → IsConsistent es → IsConsistent (created p.0 kind name owner p.1 es)
consistent_created kind name owner place es p h c = consistent_made es kind name owner p.0 p.1 (may_create kind owner place es p h) c
