-- The first table.
use Rattle.std.proofs.Common.{◌≡◌, ℕ, ◌≤◌, zero, suc, List, [], ◌∷◌, Option, Some, None, refl, sym, ap, subst, length, arith, Bool, true, false}
use Rattle.spec_live.specs.Chain.{walk, IsChain, Ends}
use Rattle.spec_live.specs.Objects.{Entry}
use Rattle.spec_live.specs.Start.{first_objects}
use Rattle.spec_live.specs.Consistent.{IsConsistent}
use Rattle.spec_live.proofs.Chains.{ends_from}
use Rattle.spec_live.proofs.StartLaws.{consistent_first}
use Rattle.muck_db.specs.declared.slot.Slot.{Slot}
use Rattle.muck_db.specs.inner.Slots.{next_at, first_at, entry_of, entries_of, first_slots, HasPlayers, IsKept}
use Rattle.muck_db.specs.inner.Limits.{IsWithinLimits}
use Rattle.muck_db.proofs.LimitLaws.{limits_first}
use Rattle.muck_db.proofs.Bridge.{ends_none}

pub entries_first : entries_of first_slots ≡ first_objects
unfolding entries_of entry_of first_slots first_objects walk next_at
entries_first = refl

next_one : next_at first_slots 1 ≡ None
unfolding next_at first_slots
next_one = refl

first_exits : (k : ℕ) → first_at true first_slots k ≡ None
unfolding first_at first_slots
first_exits zero = refl
first_exits (suc zero) = refl
first_exits (suc (suc k)) = refl

first_contents : (k : ℕ) → first_at false first_slots (suc k) ≡ None
unfolding first_at first_slots
first_contents zero = refl
first_contents (suc k) = refl

first_content : first_at false first_slots 0 ≡ Some 1
unfolding first_at first_slots
first_content = refl

first_length : length first_slots ≡ 2
unfolding first_slots
first_length = refl

one_chain : IsChain (length first_slots) (next_at first_slots) (Some 1) (1 ∷ [])
unfolding IsChain
one_chain = (refl, omega (arith, first_length), next_one)

first_ends : (v : Bool) (p : ℕ) → Ends (length first_slots) (next_at first_slots) (first_at v first_slots p)
first_ends true p = let P : Option ℕ → Type 0 = λ o. Ends (length first_slots) (next_at first_slots) o in subst P (sym (first_exits p)) (ends_none (length first_slots) (next_at first_slots))
first_ends false zero = let P : Option ℕ → Type 0 = λ o. Ends (length first_slots) (next_at first_slots) o in subst P (sym first_content) (ends_from (length first_slots) (next_at first_slots) (Some 1) (1 ∷ []) one_chain)
first_ends false (suc p) = let P : Option ℕ → Type 0 = λ o. Ends (length first_slots) (next_at first_slots) o in subst P (sym (first_contents p)) (ends_none (length first_slots) (next_at first_slots))

pub first_few : (slots : List Slot) → slots ≡ first_slots → length slots ≤ 100000
first_few slots is = omega (arith, first_length, ap (λ (z : List Slot). length z) is)

pub first_kept : (slots : List Slot) (players : List ℕ) → slots ≡ first_slots → HasPlayers slots players → IsKept slots 0 0 players
first_kept slots players is listed =
    let K : List Slot → Type 0 = λ z. IsKept z 0 0 players in
    let C : List Entry → Type 0 = λ z. IsConsistent z in
    subst K (sym is) (record {
      sound = record { ends = first_ends; world = subst C (sym entries_first) consistent_first; limits = subst IsWithinLimits (sym entries_first) limits_first };
      full = λ k lt. absurd (omega arith);
      unmarked = λ k lt. absurd (omega arith);
      listed = subst (λ (z : List Slot). HasPlayers z players) is listed;
    })
