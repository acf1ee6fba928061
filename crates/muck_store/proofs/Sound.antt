-- Records that are whole make a world that hangs together.
use Rattle.std.proofs.Common.{◌≡◌, ℕ, ◌<◌, ◌≤◌, List, [], ◌∷◌, Some, None, ◌⊎◌, inl, inr, refl, sym, ◌∙◌, ap, subst, length, arith, Bool, true}
use Rattle.std.proofs.lemmas.Bool.{cases_Bool, cases_eq}
use Rattle.std.proofs.lemmas.Option.{same_Some, none-some}
use Rattle.muck_model.specs.declared.dbref.Kind.{Kind}
use Rattle.muck_model.specs.declared.dbref.Kind.TheVariants.{Player, Garbage}
use Rattle.muck_codec.specs.declared.stored.Stored.{Stored}
use Rattle.spec_live.specs.declared.object.Object.{Object}
use Rattle.spec_live.specs.Chain.{walk, IsChain, Ends, Member, IsApart}
use Rattle.spec_live.specs.Consistent.{StandsIn, IsOrdered, IsTied}
use Rattle.spec_live.specs.Objects.{is_exit, is_garbage, garbage, may_stand, object_in, list_in, place_in, kind_in, is_vehicle_in, fits_in}
use Rattle.spec_live.proofs.Chains.{chain_frame, chain_apart, ends_from, walk_is}
use Rattle.spec_live.proofs.KindLaws.{only_garbage}
use Rattle.spec_live.proofs.Ties.{garbage_tied}
use Rattle.muck_store.specs.Forms.{next_of_stored, loaded}
use Rattle.muck_store.specs.inner.Hung.{IsHung}
use Rattle.muck_store.specs.Whole.{stored_kind, seats_in, first_at, is_whole_store}
use Rattle.muck_store.proofs.Everyone.{zero_alive, all_reached, everyone, every_list}
use Rattle.muck_store.proofs.Loaded.{IsOf, length_loaded, object_from, kind_loaded, place_loaded, seats_loaded, list_loaded}
use Rattle.muck_store.proofs.Meeting.{StandsAt, Listed, Held, Up, AllHeld, place_at, place_stands}
use Rattle.muck_store.proofs.Parts.{Whole, Tree, Alive, whole_parts, tree_met, kind_at, alive_at, alive_ties, blank_at, place_none, place_is, place_of, zero_place, top_parts, only_room, only_player}
use Rattle.muck_store.proofs.TiedRecords.{Leads, ties_loaded, blank_object}

-- whole records, and what was met
pub record Hanging (os : List Stored) : Type 0 where
  pub whole : Whole os
  pub tree : Tree os
  pub held : AllHeld os tree.met

pub hanging : (os : List Stored) → is_whole_store os ≡ true → Hanging os
hanging os h =
    let w : Whole os = whole_parts os h in
    let t : Tree os = tree_met os w.tree in
    record { whole = w; tree = t; held = all_reached os w t }

pub held_in : (os : List Stored) (v : Bool) (p : ℕ) → Hanging os → Held os v p
held_in os v p h = every_list os v p h.whole h.tree h.held

list_is : (os : List Stored) (v : Bool) (p : ℕ) (l : Held os v p) → list_in v (loaded os) p ≡ l.items
list_is os v p l = list_loaded os v p ∙ walk_is (length os) (next_of_stored os) (first_at v os p) l.items l.chain

-- What has a place isn't garbage, nor `#0`.

pub placed_alive : (os : List Stored) (d p : ℕ) → Whole os → place_at os d ≡ Some p → Alive os d
placed_alive os d p w e = elim (cases_Bool (is_garbage (stored_kind os d))) [ inl g ↦ absurd (none-some p (sym (place_none os d w g) ∙ e)) | inr a ↦ alive_at os d a ]

pub placed_lower : (os : List Stored) (d p : ℕ) → Whole os → place_at os d ≡ Some p → d ≡ 0 → ⊥
placed_lower os d p w e z = none-some p (sym (zero_place os w) ∙ ap (λ k. place_at os k) (sym z) ∙ e)

pub listed_at : (os : List Stored) (d p : ℕ) → Hanging os → place_at os d ≡ Some p → Listed os d
listed_at os d p h e = elim (h.held.reached.listed d (everyone os d h.whole h.tree h.held (placed_alive os d p h.whole e))) [
  | inl z ↦ absurd (placed_lower os d p h.whole e z)
  | inr l ↦ l
]

-- Lists.

stands_loaded : (os : List Stored) (v : Bool) (p d : ℕ) → StandsAt os v p d → StandsIn (loaded os) v p d
stands_loaded os v p d s = record {
  place = place_loaded os d ∙ place_stands os v p d s;
  kind = ap (λ z. is_exit z) (kind_loaded os d ∙ kind_at os d s.stored s.is) ∙ s.kind;
}

stands_all : (os : List Stored) (v : Bool) (p d : ℕ) → Hanging os → Member d (list_in v (loaded os) p) → StandsIn (loaded os) v p d
stands_all os v p d h m =
    let l : Held os v p = held_in os v p h in
    let M : List ℕ → Type 0 = λ xs. Member d xs in
    stands_loaded os v p d (l.stands d (subst M (list_is os v p l) m))

listed_all : (os : List Stored) (v : Bool) (p d : ℕ) → Hanging os → StandsIn (loaded os) v p d → Member d (list_in v (loaded os) p)
listed_all os v p d h s =
    let e : place_at os d ≡ Some p = sym (place_loaded os d) ∙ s.place in
    let l : Listed os d = listed_at os d p h e in
    let at : l.at ≡ p = same_Some l.at p (sym (place_stands os l.exits l.at d l.stands) ∙ e) in
    let kind : l.exits ≡ v = sym l.stands.kind ∙ ap (λ z. is_exit z) (sym (kind_loaded os d ∙ kind_at os d l.stands.stored l.stands.is)) ∙ s.kind in
    let M : List ℕ → Type 0 = λ xs. Member d xs in
    let same : walk (length os) (next_of_stored os) (first_at l.exits os l.at) ≡ list_in v (loaded os) p =
    ap (λ z. walk (length os) (next_of_stored os) (first_at z os l.at)) kind ∙ ap (λ z. walk (length os) (next_of_stored os) (first_at v os z)) at ∙ sym (list_loaded os v p) in
    subst M same l.member

once_all : (os : List Stored) (v : Bool) (p : ℕ) → Hanging os → IsApart (list_in v (loaded os) p)
once_all os v p h =
    let l : Held os v p = held_in os v p h in
    let P : List ℕ → Type 0 = λ xs. IsApart xs in
    subst P (sym (list_is os v p l)) (chain_apart (length os) (next_of_stored os) (first_at v os p) l.items l.chain)

-- Places.

up_at : (os : List Stored) (d : ℕ) → Hanging os → d < length os → Up os d
unfolding IsChain
up_at os d h lt = elim (cases_Bool (is_garbage (stored_kind os d))) [
  | inl g ↦ record { path = d ∷ []; chain = (refl, lt, place_none os d h.whole g) }
  | inr a ↦ h.held.reached.ups d (everyone os d h.whole h.tree h.held (alive_at os d a))
]

up_all : (os : List Stored) (d : ℕ) → Hanging os → d < length (loaded os) → Ends (length (loaded os)) (place_in (loaded os)) (Some d)
up_all os d h lt =
    let u : Up os d = up_at os d h (omega (arith, lt, length_loaded os)) in
    let n : ℕ = length os in
    let P : ℕ → Type 0 = λ z. Ends z (place_in (loaded os)) (Some d) in
    subst P (sym (length_loaded os)) (ends_from n (place_in (loaded os)) (Some d) u.path (chain_frame n (place_at os) (place_in (loaded os)) (Some d) u.path (λ x m. place_loaded os x) u.chain))

fits_all : (os : List Stored) (d p : ℕ) → Whole os → place_in (loaded os) d ≡ Some p → fits_in (loaded os) d p ≡ true
unfolding fits_in
fits_all os d p w h =
    let e : place_at os d ≡ Some p = sym (place_loaded os d) ∙ h in
    let a : Alive os d = placed_alive os d p w e in
    let k : Kind = a.stored.kind in
    let l : Leads (λ q. may_stand k (stored_kind os q) (seats_in os q)) a.stored.place = place_of os d w a (placed_lower os d p w e) in
    let at : p ≡ l.number = same_Some p l.number (sym e ∙ place_is os d l.number a.stored a.is l.is) in
    ap (λ z. may_stand z (kind_in (loaded os) p) (is_vehicle_in (loaded os) p)) (kind_loaded os d ∙ kind_at os d a.stored a.is)
    ∙ ap (λ z. may_stand k z (is_vehicle_in (loaded os) p)) (kind_loaded os p)
    ∙ ap (λ z. may_stand k (stored_kind os p) z) (seats_loaded os p)
    ∙ ap (λ z. may_stand k (stored_kind os z) (seats_in os z)) at
    ∙ l.holds

ordered : (os : List Stored) → length os ≤ 100000 → Hanging os → IsOrdered (loaded os)
ordered os few h =
    let zeroth : Alive os 0 = zero_alive os h.whole h.tree in
    record {
      stands = λ v p d m. stands_all os v p d h m;
      listed = λ v p d s. listed_all os v p d h s;
      once = λ v p. once_all os v p h;
      up = λ d lt. up_all os d h lt;
      kinds = λ d p e. fits_all os d p h.whole e;
      top = place_loaded os 0 ∙ zero_place os h.whole;
      room = kind_loaded os 0 ∙ kind_at os 0 zeroth.stored zeroth.is ∙ only_room zeroth.stored.kind (top_parts os h.whole zeroth).0;
      few = omega (arith, few, length_loaded os);
    }

placed : (os : List Stored) (d : ℕ) → Whole os → place_in (loaded os) d ≡ None → (d ≡ 0) ⊎ (kind_in (loaded os) d ≡ Garbage)
placed os d w none = elim (cases_Bool (is_garbage (stored_kind os d))) [
  | inl g ↦ inr (kind_loaded os d ∙ only_garbage (stored_kind os d) g)
  | inr l ↦ elim (cases_eq d 0) [
    | inl z ↦ inl z
    | inr ne ↦
        let a : Alive os d = alive_at os d l in
        let at : Leads (λ q. may_stand a.stored.kind (stored_kind os q) (seats_in os q)) a.stored.place = place_of os d w a ne in
        absurd (none-some at.number (sym none ∙ place_loaded os d ∙ place_is os d at.number a.stored a.is at.is))
  ]
]

-- Ties.

first_player : (os : List Stored) → Whole os → kind_in (loaded os) 1 ≡ Player
first_player os w = kind_loaded os 1 ∙ only_player (stored_kind os 1) w.player

blank_of : (os : List Stored) (k : ℕ) (o : Object) → Whole os → (x : IsOf os k o) → is_garbage x.stored.kind ≡ true → o ≡ garbage
blank_of os k o w x g = x.object ∙ blank_object x.stored (blank_at os k x.stored w x.is (ap (λ z. is_garbage z) (kind_at os k x.stored x.is) ∙ g)) g

tied_all : (os : List Stored) (k : ℕ) (o : Object) → Whole os → object_in (loaded os) k ≡ Some o → IsTied (loaded os) o
tied_all os k o w h =
    let x : IsOf os k o = object_from os k o h in
    let P : Object → Type 0 = λ z. IsTied (loaded os) z in
    elim (cases_Bool (is_garbage x.stored.kind)) [
      | inl g ↦ subst P (sym (blank_of os k o w x g)) (garbage_tied (loaded os) (first_player os w))
      | inr a ↦ subst P (sym x.object) (ties_loaded os k x.stored (alive_ties os k w (record { stored = x.stored; is = x.is; alive = a })))
    ]

blank_all : (os : List Stored) (k : ℕ) (o : Object) → Whole os → object_in (loaded os) k ≡ Some o → is_garbage o.kind ≡ true → o ≡ garbage
blank_all os k o w h g = let x : IsOf os k o = object_from os k o h in blank_of os k o w x (ap (λ (z : Object). is_garbage z.kind) (sym x.object) ∙ g)

pub whole_hangs : (os : List Stored) → length os ≤ 100000 → is_whole_store os ≡ true → IsHung os
whole_hangs os few w =
    let h : Hanging os = hanging os w in
    record {
      ends = λ v p. let l : Held os v p = held_in os v p h in ends_from (length os) (next_of_stored os) (first_at v os p) l.items l.chain;
      world = record {
        ordered = ordered os few h;
        placed = λ d none. placed os d h.whole none;
        tied = λ k o e. tied_all os k o h.whole e;
        blank = λ k o e g. blank_all os k o h.whole e g;
        first = first_player os h.whole;
      };
    }
