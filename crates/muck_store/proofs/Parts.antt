-- What the parts of the test of records say.
use Rattle.std.proofs.Common.{◌≡◌, ℕ, zero, suc, List, [], ◌∷◌, Option, Some, None, inl, inr, refl, sym, ◌∙◌, ap, length, arith, Bool, true, false, eqb, cond, not, ◌&&◌}
use Rattle.std.proofs.lemmas.Bool.{and_parts, cases_Bool, eqb-true, false≢true, not_from_false}
use Rattle.std.proofs.lemmas.Option.{none-some}
use Rattle.std.specs.List.{count_by, slice_get}
use Rattle.std.specs.Option.{option_map_or, option_and_then}
use Rattle.muck_laws.proofs.Options.{nowhere_by}
use Rattle.muck_model.specs.declared.dbref.Kind.{Kind}
use Rattle.muck_model.specs.declared.dbref.Kind.TheVariants.{Room, Player, Garbage}
use Rattle.muck_model.proofs.Dbrefs.{eq_same}
use Rattle.muck_codec.specs.declared.stored.Stored.{Stored}
use Rattle.spec_live.specs.Objects.{dbref_of, index_of, nothing, same, is_room, is_player, is_garbage, may_stand}
use Rattle.muck_store.specs.Whole.{stored_kind, seats_in, all_tied, all_met, first_at, is_tree, is_whole_store, leads_to}
use Rattle.muck_store.proofs.Counted.{Passes}
use Rattle.muck_store.proofs.Meeting.{StandsAt, place_at}
use Rattle.muck_store.proofs.TiedRecords.{Leads, leads, TiedAt, tied_from, AliveTied, alive_tied, Blank, blank_tied}

pub record Whole (os : List Stored) : Type 0 where
  pub player : is_player (stored_kind os 1) ≡ true
  pub tied : all_tied os 0 os ≡ true
  pub tree : is_tree os ≡ true

pub whole_parts : (os : List Stored) → is_whole_store os ≡ true → Whole os
unfolding is_whole_store
whole_parts os h =
    let all = and_parts (is_player (stored_kind os 1) && all_tied os 0 os) (is_tree os) h in
    let first = and_parts (is_player (stored_kind os 1)) (all_tied os 0 os) all.0 in
    record { player = first.0; tied = first.1; tree = all.1 }

abbrev pub lives : Stored → Bool
lives s = not (is_garbage s.kind)

-- what was met in the end
pub record Tree (os : List Stored) : Type 0 where
  pub met : List ℕ
  pub is : all_met (length os) os 0 (0 ∷ []) ≡ Some met
  pub size : length met ≡ count_by lives os

tree_by : (os : List Stored) (o : Option (List ℕ)) → all_met (length os) os 0 (0 ∷ []) ≡ o → option_map_or (λ met. eqb (length met) (count_by lives os)) o false ≡ true → Tree os
tree_by os None e h = absurd (false≢true h)
tree_by os (Some met) e h = record { met = met; is = e; size = eqb-true (length met) (count_by lives os) h }

pub tree_met : (os : List Stored) → is_tree os ≡ true → Tree os
unfolding is_tree
tree_met os h = tree_by os (all_met (length os) os 0 (0 ∷ [])) refl h

-- An object that isn't garbage.

pub record Alive (os : List Stored) (k : ℕ) : Type 0 where
  pub stored : Stored
  pub is : slice_get os k ≡ Some stored
  pub alive : is_garbage stored.kind ≡ false

pub kind_at : (os : List Stored) (k : ℕ) (s : Stored) → slice_get os k ≡ Some s → stored_kind os k ≡ s.kind
unfolding stored_kind
kind_at os k s e = ap (λ (o : Option Stored). option_map_or (λ (x : Stored). x.kind) o Garbage) e

pub alive_at : (os : List Stored) (k : ℕ) → is_garbage (stored_kind os k) ≡ false → Alive os k
unfolding stored_kind
alive_at os k h = by_cases (slice_get os k) refl h
  where
    by_cases : (o : Option Stored) → slice_get os k ≡ o → is_garbage (option_map_or (λ (x : Stored). x.kind) o Garbage) ≡ false → Alive os k
    by_cases None e q = absurd (false≢true (sym q))
    by_cases (Some s) e q = record { stored = s; is = e; alive = q }

pub passes : (os : List Stored) (k : ℕ) → Alive os k → Passes lives os k
passes os k a = record { thing = a.stored; is = a.is; holds = not_from_false (is_garbage a.stored.kind) a.alive }

pub tied_at : (os : List Stored) (k : ℕ) (s : Stored) → Whole os → slice_get os k ≡ Some s → TiedAt os k s
tied_at os k s w e = tied_from os 0 k k os s (omega arith) w.tied e

pub alive_ties : (os : List Stored) (k : ℕ) → Whole os → (a : Alive os k) → AliveTied os k a.stored
alive_ties os k w a = alive_tied os k a.stored (tied_at os k a.stored w a.is) a.alive

-- Garbage holds nothing and stands nowhere.

pub blank_at : (os : List Stored) (k : ℕ) (s : Stored) → Whole os → slice_get os k ≡ Some s → is_garbage (stored_kind os k) ≡ true → Blank s
blank_at os k s w e g = blank_tied os k s (tied_at os k s w e) (ap (λ z. is_garbage z) (sym (kind_at os k s e)) ∙ g)

pub first_none : (os : List Stored) (k : ℕ) → Whole os → is_garbage (stored_kind os k) ≡ true → (v : Bool) → first_at v os k ≡ None
first_none os k w g v = by_cases v (slice_get os k) refl
  where
    by_cases : (b : Bool) (o : Option Stored) → slice_get os k ≡ o → option_and_then (λ (s : Stored). index_of (cond b s.first_exit s.first_content)) o ≡ None
    by_cases b None e = refl
    by_cases true (Some s) e = ap (λ z. index_of z) (blank_at os k s w e g).exits
    by_cases false (Some s) e = ap (λ z. index_of z) (blank_at os k s w e g).contents

pub place_none : (os : List Stored) (k : ℕ) → Whole os → is_garbage (stored_kind os k) ≡ true → place_at os k ≡ None
unfolding place_at
place_none os k w g = by_cases (slice_get os k) refl
  where
    by_cases : (o : Option Stored) → slice_get os k ≡ o → option_and_then (λ (s : Stored). index_of s.place) o ≡ None
    by_cases None e = refl
    by_cases (Some s) e = ap (λ z. index_of z) (blank_at os k s w e g).place

pub alive_stands : (os : List Stored) (v : Bool) (p d : ℕ) → Whole os → StandsAt os v p d → Alive os d
alive_stands os v p d w s = record {
  stored = s.stored;
  is = s.is;
  alive = elim (cases_Bool (is_garbage s.stored.kind)) [
    | inl g ↦ let b : Blank s.stored = blank_tied os d s.stored (tied_at os d s.stored w s.is) g in absurd (none-some p (ap (λ z. index_of z) (sym b.place ∙ s.place)))
    | inr a ↦ a
  ];
}

-- Places.

pub place_is : (os : List Stored) (d p : ℕ) (s : Stored) → slice_get os d ≡ Some s → s.place ≡ dbref_of p → place_at os d ≡ Some p
unfolding place_at
place_is os d p s e h = ap (λ (o : Option Stored). option_and_then (λ (x : Stored). index_of x.place) o) e ∙ ap (λ z. index_of z) h

pub place_nowhere : (os : List Stored) (d : ℕ) (s : Stored) → slice_get os d ≡ Some s → index_of s.place ≡ None → place_at os d ≡ None
unfolding place_at
place_nowhere os d s e h = ap (λ (o : Option Stored). option_and_then (λ (x : Stored). index_of x.place) o) e ∙ h

pub top_parts : (os : List Stored) → Whole os → (a : Alive os 0) → (is_room a.stored.kind ≡ true) × (index_of a.stored.place ≡ None) × (a.stored.next ≡ nothing)
top_parts os w a =
    let s : Stored = a.stored in
    let all = and_parts (is_room s.kind && not (leads_to (λ n. true) s.place)) (same s.next nothing) (alive_ties os 0 w a).place in
    let first = and_parts (is_room s.kind) (not (leads_to (λ n. true) s.place)) all.0 in
    (first.0, nowhere_by (index_of s.place) first.1, eq_same s.next nothing all.1)

pub zero_place : (os : List Stored) → Whole os → place_at os 0 ≡ None
zero_place os w = elim (cases_Bool (is_garbage (stored_kind os 0))) [
  | inl g ↦ place_none os 0 w g
  | inr l ↦ let a : Alive os 0 = alive_at os 0 l in place_nowhere os 0 a.stored a.is (top_parts os w a).1
]

-- the place of what isn't garbage nor `#0`
pub place_of : (os : List Stored) (k : ℕ) → Whole os → (a : Alive os k) → (k ≡ 0 → ⊥) → Leads (λ p. may_stand a.stored.kind (stored_kind os p) (seats_in os p)) a.stored.place
place_of os zero w a ne = absurd (ne refl)
place_of os (suc k) w a ne = leads (λ p. may_stand a.stored.kind (stored_kind os p) (seats_in os p)) a.stored.place (alive_ties os (suc k) w a).place

-- Kinds.

pub only_room : (k : Kind) → is_room k ≡ true → k ≡ Room
only_room Room h = refl
only_room k h = absurd (false≢true h)

pub only_player : (k : Kind) → is_player k ≡ true → k ≡ Player
only_player Player h = refl
only_player k h = absurd (false≢true h)

-- no player is in a player
pub none_in_player : (k : Kind) (seats : Bool) → is_player k ≡ true → may_stand k k seats ≡ true → ⊥
none_in_player Player seats p h = false≢true h
none_in_player k seats p h = false≢true p
