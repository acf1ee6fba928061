-- Whatever isn't garbage was met.
use Rattle.std.proofs.Common.{◌≡◌, ℕ, ◌<◌, ◌≤◌, zero, suc, List, [], ◌∷◌, Option, Some, None, inl, inr, refl, sym, ◌∙◌, ap, subst, length, arith, Bool, true, false}
use Rattle.std.proofs.lemmas.Bool.{cases_Bool}
use Rattle.std.proofs.lemmas.Option.{same_Some, slice_get_within}
use Rattle.std.specs.List.{count_by}
use Rattle.std.specs.Option.{option_and_then}
use Rattle.muck_codec.specs.declared.stored.Stored.{Stored}
use Rattle.spec_live.specs.Chain.{IsChain, Member, IsApart, has}
use Rattle.spec_live.specs.Objects.{is_garbage, is_player, may_stand}
use Rattle.spec_live.proofs.Chains.{member_any}
use Rattle.spec_live.proofs.KindLaws.{player_alive, place_alive}
use Rattle.spec_live.proofs.Lists.{has_not}
use Rattle.muck_store.specs.Whole.{stored_kind, seats_in, chain_met, list_met, held_met, all_met, first_at}
use Rattle.muck_store.proofs.Counted.{Passes, counted}
use Rattle.muck_store.proofs.Meeting.{Up, Reached, Held, AllHeld, all_held}
use Rattle.muck_store.proofs.Parts.{Whole, Tree, Alive, lives, kind_at, alive_at, passes, first_none, alive_stands, zero_place, place_of, none_in_player}
use Rattle.muck_store.proofs.TiedRecords.{Leads}

-- `#0` isn't garbage.

list_lone : (os : List Stored) (v : Bool) (p : ℕ) (met : List ℕ) → first_at v os p ≡ None → list_met os v p met ≡ Some met
unfolding chain_met
list_lone os v p met h = ap (λ t. chain_met (suc (length os)) os v p t met) h

held_lone : (os : List Stored) (p : ℕ) (met : List ℕ) → ((v : Bool) → first_at v os p ≡ None) → held_met os p met ≡ Some met
held_lone os p met h = ap (λ (o : Option (List ℕ)). option_and_then (list_met os true p) o) (list_lone os false p met (h false)) ∙ list_lone os true p met (h true)

past_lone : (n : ℕ) (os : List Stored) → all_met n os 1 (0 ∷ []) ≡ Some (0 ∷ [])
unfolding all_met
past_lone zero os = refl
past_lone (suc n) os = refl

all_lone : (n : ℕ) (os : List Stored) → ((v : Bool) → first_at v os 0 ≡ None) → all_met n os 0 (0 ∷ []) ≡ Some (0 ∷ [])
unfolding all_met
all_lone zero os h = refl
all_lone (suc n) os h = ap (λ (o : Option (List ℕ)). option_and_then (all_met n os 1) o) (held_lone os 0 (0 ∷ []) h) ∙ past_lone n os

two_alive : (os : List Stored) (p : ℕ) → Alive os 1 → Alive os p → (p ≡ 1 → ⊥) → 2 ≤ count_by lives os
unfolding Member IsApart
two_alive os p one other differ =
    let P : ℕ → Type 0 = λ z. Passes lives os z in
    counted lives os (1 ∷ p ∷ []) ((λ m. elim m [ inl e ↦ differ (sym e) | inr z ↦ z ]), ((λ z. z), tt))
    (λ d m. elim m [ inl e ↦ subst P (sym e) (passes os 1 one) | inr r ↦ elim r [ inl e ↦ subst P (sym e) (passes os p other) | inr z ↦ absurd z ] ])

lonely : (os : List Stored) → Whole os → Tree os → is_garbage (stored_kind os 0) ≡ true → ⊥
lonely os w t g =
    let one : Alive os 1 = alive_at os 1 (player_alive (stored_kind os 1) w.player) in
    let kind : stored_kind os 1 ≡ one.stored.kind = kind_at os 1 one.stored one.is in
    let l : Leads (λ p. may_stand one.stored.kind (stored_kind os p) (seats_in os p)) one.stored.place = place_of os 1 w one (λ e. omega (arith, e)) in
    let other : Alive os l.number = alive_at os l.number (place_alive one.stored.kind (stored_kind os l.number) (seats_in os l.number) l.holds) in
    let differ : l.number ≡ 1 → ⊥ = λ e.
    none_in_player one.stored.kind (seats_in os l.number) (ap (λ z. is_player z) (sym kind) ∙ w.player)
    (ap (λ z. may_stand one.stored.kind z (seats_in os l.number)) (sym kind ∙ ap (λ z. stored_kind os z) (sym e)) ∙ l.holds) in
    let lone : length t.met ≡ 1 = ap (λ (l : List ℕ). length l) (same_Some t.met (0 ∷ []) (sym t.is ∙ all_lone (length os) os (first_none os 0 w g))) in
    omega (arith, two_alive os l.number one other differ, t.size, lone)

pub zero_alive : (os : List Stored) → Whole os → Tree os → Alive os 0
zero_alive os w t = alive_at os 0 (elim (cases_Bool (is_garbage (stored_kind os 0))) [ inl g ↦ absurd (lonely os w t g) | inr a ↦ a ])

-- All that was met from `#0` on.

start_reached : (os : List Stored) → Whole os → Alive os 0 → Reached os (0 ∷ [])
unfolding Member IsApart IsChain
start_reached os w zeroth =
    let lt : 0 < length os = slice_get_within os 0 zeroth.stored zeroth.is in
    let top : Up os 0 = record { path = 0 ∷ []; chain = (refl, lt, zero_place os w) } in
    let P : ℕ → Type 0 = λ z. Up os z in
    record {
      below = λ d m. elim m [ inl e ↦ omega (arith, e, lt) | inr z ↦ absurd z ];
      apart = ((λ z. z), tt);
      ups = λ d m. elim m [ inl e ↦ subst P (sym e) top | inr z ↦ absurd z ];
      listed = λ d m. elim m [ inl e ↦ inl e | inr z ↦ absurd z ];
    }

pub all_reached : (os : List Stored) → Whole os → (t : Tree os) → AllHeld os t.met
all_reached os w t = all_held (length os) os 0 (0 ∷ []) t.met (start_reached os w (zero_alive os w t)) (record { held = λ k p lt e v. absurd (omega (arith, lt)) }) (omega arith) t.is

met_alive : (os : List Stored) (d : ℕ) → Whole os → (t : Tree os) → AllHeld os t.met → Member d t.met → Alive os d
met_alive os d w t h m = elim (h.reached.listed d m) [
  | inl e ↦ let P : ℕ → Type 0 = λ z. Alive os z in subst P (sym e) (zero_alive os w t)
  | inr l ↦ alive_stands os l.exits l.at d w l.stands
]

too_many : (os : List Stored) (d : ℕ) → Whole os → (t : Tree os) → AllHeld os t.met → Alive os d → (Member d t.met → ⊥) → ⊥
unfolding Member IsApart
too_many os d w t h a new =
    let P : ℕ → Type 0 = λ z. Passes lives os z in
    let many : length (d ∷ t.met) ≤ count_by lives os = counted lives os (d ∷ t.met) (new, h.reached.apart)
    (λ k m. elim m [ inl e ↦ subst P (sym e) (passes os d a) | inr r ↦ passes os k (met_alive os k w t h r) ]) in
    omega (arith, many, t.size)

pub everyone : (os : List Stored) (d : ℕ) → Whole os → (t : Tree os) → AllHeld os t.met → Alive os d → Member d t.met
unfolding has
everyone os d w t h a = elim (cases_Bool (has d t.met)) [ inl e ↦ member_any d t.met e | inr e ↦ absurd (too_many os d w t h a (has_not d t.met e)) ]

-- each list is a chain, also that of garbage
pub every_list : (os : List Stored) (v : Bool) (p : ℕ) → Whole os → (t : Tree os) → AllHeld os t.met → Held os v p
unfolding IsChain Member
every_list os v p w t h = elim (cases_Bool (is_garbage (stored_kind os p))) [
  | inl g ↦ record { items = []; chain = first_none os p w g v; stands = λ x m. absurd m }
  | inr a ↦ h.held p (everyone os p w t h (alive_at os p a)) v
]
