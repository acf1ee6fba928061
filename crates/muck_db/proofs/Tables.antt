-- Writes to a table, seen through its readers.
use Rattle.std.proofs.Common.{◌≡◌, ℕ, ◌<◌, List, Option, Some, None, inl, inr, refl, sym, ◌∙◌, ap, length, Bool, true, false}
use Rattle.std.proofs.lemmas.Bool.{cases_eq, false≢true}
use Rattle.std.specs.List.{slice_get}
use Rattle.std.specs.Option.{option_map, option_and_then, option_map_or}
use Rattle.muck_laws.proofs.Options.{kept_map}
use Rattle.muck_laws.proofs.Places.{some_at}
use Rattle.spec_live.specs.declared.object.Object.{Object}
use Rattle.spec_live.specs.declared.saving.Saving.TheVariants.{Due}
use Rattle.spec_live.specs.Objects.{changed_at, is_garbage, garbage}
use Rattle.spec_live.proofs.Lists.{get_changed_same, get_changed_other, read_kept}
use Rattle.muck_db.specs.declared.slot.Slot.{Slot}
use Rattle.muck_db.specs.inner.Slots.{shown, object_at, kind_at, next_at, first_of, first_at, mark_at, saving_at, stood_at, with_next, with_first, on_slot}

pub object_kept : (slots : List Slot) (n k : ℕ) (f : Slot → Slot) → ((s : Slot) → shown (f s) ≡ shown s) → object_at (changed_at n f slots) k ≡ object_at slots k
unfolding object_at
object_kept slots n k f h = elim (cases_eq k n) [
  | inl e ↦ rw e (ap (λ (o : Option Slot). option_map shown o) (get_changed_same slots n f) ∙ kept_map shown f (slice_get slots n) h)
  | inr e ↦ ap (λ (o : Option Slot). option_map shown o) (get_changed_other slots n k f e)
]

-- each write, through each reader
pub object-with_next : (slots : List Slot) (n k : ℕ) (to : Option ℕ) → object_at (changed_at n (with_next to) slots) k ≡ object_at slots k
object-with_next slots n k to = object_kept slots n k (with_next to) (λ s. refl)

pub object-with_first : (w : Bool) (slots : List Slot) (n k : ℕ) (to : Option ℕ) → object_at (changed_at n (with_first w to) slots) k ≡ object_at slots k
object-with_first true slots n k to = object_kept slots n k (with_first true to) (λ s. refl)
object-with_first false slots n k to = object_kept slots n k (with_first false to) (λ s. refl)

pub first-with_next : (w : Bool) (slots : List Slot) (n k : ℕ) (to : Option ℕ) → first_at w (changed_at n (with_next to) slots) k ≡ first_at w slots k
unfolding first_at
first-with_next true slots n k to = read_kept (first_of true) slots n k (with_next to) (λ s. refl)
first-with_next false slots n k to = read_kept (first_of false) slots n k (with_next to) (λ s. refl)

pub next-with_first : (w : Bool) (slots : List Slot) (n k : ℕ) (to : Option ℕ) → next_at (changed_at n (with_first w to) slots) k ≡ next_at slots k
unfolding next_at
next-with_first true slots n k to = read_kept (λ (s : Slot). s.next) slots n k (with_first true to) (λ s. refl)
next-with_first false slots n k to = read_kept (λ (s : Slot). s.next) slots n k (with_first false to) (λ s. refl)

pub next-with_next_same : (slots : List Slot) (n : ℕ) (to : Option ℕ) → n < length slots → next_at (changed_at n (with_next to) slots) n ≡ to
unfolding next_at
next-with_next_same slots n to h = let s : (x : Slot) × (slice_get slots n ≡ Some x) = some_at slots n h in rw (get_changed_same slots n (with_next to), s.1) refl

pub next-with_next_other : (slots : List Slot) (n k : ℕ) (to : Option ℕ) → (k ≡ n → ⊥) → next_at (changed_at n (with_next to) slots) k ≡ next_at slots k
unfolding next_at
next-with_next_other slots n k to ne = ap (λ (o : Option Slot). option_and_then (λ (s : Slot). s.next) o) (get_changed_other slots n k (with_next to) ne)

pub first-with_first_same : (w : Bool) (slots : List Slot) (n : ℕ) (to : Option ℕ) → n < length slots → first_at w (changed_at n (with_first w to) slots) n ≡ to
unfolding first_at
first-with_first_same true slots n to h = let s : (x : Slot) × (slice_get slots n ≡ Some x) = some_at slots n h in rw (get_changed_same slots n (with_first true to), s.1) refl
first-with_first_same false slots n to h = let s : (x : Slot) × (slice_get slots n ≡ Some x) = some_at slots n h in rw (get_changed_same slots n (with_first false to), s.1) refl

pub first-with_first_other : (w v : Bool) (slots : List Slot) (n k : ℕ) (to : Option ℕ) → (v ≡ w → k ≡ n → ⊥) → first_at v (changed_at n (with_first w to) slots) k ≡ first_at v slots k
unfolding first_at
first-with_first_other true true slots n k to ne = ap (λ (o : Option Slot). option_and_then (first_of true) o) (get_changed_other slots n k (with_first true to) (ne refl))
first-with_first_other false false slots n k to ne = ap (λ (o : Option Slot). option_and_then (first_of false) o) (get_changed_other slots n k (with_first false to) (ne refl))
first-with_first_other true false slots n k to ne = read_kept (first_of false) slots n k (with_first true to) (λ s. refl)
first-with_first_other false true slots n k to ne = read_kept (first_of true) slots n k (with_first false to) (λ s. refl)

-- a change of the object alone
pub first-on_slot : (w : Bool) (slots : List Slot) (n k : ℕ) (f : Object → Object) → first_at w (changed_at n (on_slot f) slots) k ≡ first_at w slots k
unfolding first_at
first-on_slot true slots n k f = read_kept (first_of true) slots n k (on_slot f) (λ s. refl)
first-on_slot false slots n k f = read_kept (first_of false) slots n k (on_slot f) (λ s. refl)

pub next-on_slot : (slots : List Slot) (n k : ℕ) (f : Object → Object) → next_at (changed_at n (on_slot f) slots) k ≡ next_at slots k
unfolding next_at
next-on_slot slots n k f = read_kept (λ (s : Slot). s.next) slots n k (on_slot f) (λ s. refl)

pub mark-on_slot : (slots : List Slot) (n k : ℕ) (f : Object → Object) → mark_at (changed_at n (on_slot f) slots) k ≡ mark_at slots k
unfolding mark_at
mark-on_slot slots n k f = read_kept (λ (s : Slot). s.mark) slots n k (on_slot f) (λ s. refl)

pub stood-on_slot : (slots : List Slot) (n k : ℕ) (f : Object → Object) → stood_at (changed_at n (on_slot f) slots) k ≡ stood_at slots k
unfolding stood_at
stood-on_slot slots n k f = read_kept (λ (s : Slot). s.stood) slots n k (on_slot f) (λ s. refl)

pub object-on_slot_same : (slots : List Slot) (n : ℕ) (f : Object → Object) → is_garbage (kind_at slots n) ≡ false → object_at (changed_at n (on_slot f) slots) n ≡ option_map f (object_at slots n)
unfolding object_at kind_at garbage
object-on_slot_same slots n f alive = rw (get_changed_same slots n (on_slot f)) (by_cases (slice_get slots n) refl)
  where
    by_cases : (o : Option Slot) → slice_get slots n ≡ o → option_map shown (option_map (on_slot f) o) ≡ option_map f (option_map shown o)
    by_cases None e = refl
    by_cases (Some s) e = by_object s.object refl
      where
        by_object : (q : Option Object) → s.object ≡ q → ◌≡◌ {A = Option Object} (Some (option_map_or (λ o. o) (option_map f s.object) garbage)) (Some (f (option_map_or (λ o. o) s.object garbage)))
        by_object None q = absurd (false≢true (sym alive ∙ rw (e, q) refl))
        by_object (Some o) q = rw q refl

pub object-on_slot_other : (slots : List Slot) (n k : ℕ) (f : Object → Object) → (k ≡ n → ⊥) → object_at (changed_at n (on_slot f) slots) k ≡ object_at slots k
unfolding object_at
object-on_slot_other slots n k f ne = rw (get_changed_other slots n k (on_slot f) ne) refl

-- marks are no part of chains
pub mark-with_next : (slots : List Slot) (n k : ℕ) (to : Option ℕ) → mark_at (changed_at n (with_next to) slots) k ≡ mark_at slots k
unfolding mark_at
mark-with_next slots n k to = read_kept (λ (s : Slot). s.mark) slots n k (with_next to) (λ s. refl)

pub mark-with_first : (w : Bool) (slots : List Slot) (n k : ℕ) (to : Option ℕ) → mark_at (changed_at n (with_first w to) slots) k ≡ mark_at slots k
unfolding mark_at
mark-with_first true slots n k to = read_kept (λ (s : Slot). s.mark) slots n k (with_first true to) (λ s. refl)
mark-with_first false slots n k to = read_kept (λ (s : Slot). s.mark) slots n k (with_first false to) (λ s. refl)

pub stood-with_next : (slots : List Slot) (n k : ℕ) (to : Option ℕ) → stood_at (changed_at n (with_next to) slots) k ≡ stood_at slots k
unfolding stood_at
stood-with_next slots n k to = read_kept (λ (s : Slot). s.stood) slots n k (with_next to) (λ s. refl)

pub stood-with_first : (w : Bool) (slots : List Slot) (n k : ℕ) (to : Option ℕ) → stood_at (changed_at n (with_first w to) slots) k ≡ stood_at slots k
unfolding stood_at
stood-with_first true slots n k to = read_kept (λ (s : Slot). s.stood) slots n k (with_first true to) (λ s. refl)
stood-with_first false slots n k to = read_kept (λ (s : Slot). s.stood) slots n k (with_first false to) (λ s. refl)

-- What is written is due, and nothing else.

pub saving_due : (slots : List Slot) (n : ℕ) (f : Slot → Slot) → ((s : Slot) → (f s).saving ≡ Due) → saving_at (changed_at n f slots) n ≡ Due
unfolding saving_at
saving_due slots n f h = rw (get_changed_same slots n f) (by_cases (slice_get slots n))
  where
    by_cases : (o : Option Slot) → option_map_or (λ (s : Slot). s.saving) (option_map f o) Due ≡ Due
    by_cases None = refl
    by_cases (Some s) = h s

pub saving_other : (slots : List Slot) (n k : ℕ) (f : Slot → Slot) → (k ≡ n → ⊥) → saving_at (changed_at n f slots) k ≡ saving_at slots k
unfolding saving_at
saving_other slots n k f ne = ap (λ (o : Option Slot). option_map_or (λ (s : Slot). s.saving) o Due) (get_changed_other slots n k f ne)

pub with_first_due : (w : Bool) (to : Option ℕ) (s : Slot) → (with_first w to s).saving ≡ Due
with_first_due true to s = refl
with_first_due false to s = refl
