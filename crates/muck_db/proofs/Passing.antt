-- Walks that pass over blocks.
use Rattle.std.proofs.Common.{◌≡◌, ℕ, ◌+◌, ◌-◌, ◌<◌, ◌≤◌, zero, suc, List, [], ◌∷◌, ◌++◌, Option, Some, None, inl, inr, refl, sym, ◌∙◌, ap, subst, length, drop, arith, Bool, true, false, not}
use Rattle.std.proofs.lemmas.Bool.{cases_lt}
use Rattle.std.proofs.lemmas.List.{drop_all}
use Rattle.std.proofs.lemmas.Option.{slice_get_cases}
use Rattle.std.specs.List.{slice_get}
use Rattle.std.specs.Option.{option_map, option_map_or}
use Rattle.spec_live.specs.declared.saving.Saving.{Saving}
use Rattle.spec_live.specs.declared.saving.Saving.TheVariants.{Due, Pending, Done}
use Rattle.spec_live.specs.Objects.{Entry, is_garbage}
use Rattle.spec_live.specs.Saving.{is_due}
use Rattle.muck_codec.specs.declared.stored.Stored.{Stored}
use Rattle.muck_store.specs.inner.Changes.{LeavesOut}
use Rattle.muck_store.specs.Forms.{stored_from, persist}
use Rattle.muck_db.specs.declared.slot.Slot.{Slot}
use Rattle.muck_db.specs.declared.marking.Moment.{Moment}
use Rattle.muck_db.specs.declared.marking.Moment.TheVariants.{Cut, Kept, Failed}
use Rattle.muck_db.specs.declared.blocks.Flag.TheVariants.{Unsaved, Garbage, Marked}
use Rattle.muck_db.specs.inner.Slots.{kind_at, mark_at, saving_at, with_saving, entries_of}
use Rattle.muck_db.specs.inner.Dumps.{saving_after}
use Rattle.muck_db.specs.inner.Kept.{stored_at}
use Rattle.muck_db.specs.inner.Blocks.{LacksAt}
use Rattle.muck_db.proofs.Blocked.{settled, alive, unmarked}
use Rattle.muck_db.proofs.Keeping.{LeftOut, left_over}
use Rattle.muck_db.proofs.Writes.{Passed}

-- What is done stays so.

stays_done : (moment : Moment) (s : Saving) → s ≡ Done → saving_after moment s ≡ s
stays_done Cut Due h = absurd (cc h)
stays_done Cut Pending h = refl
stays_done Cut Done h = refl
stays_done Kept Due h = refl
stays_done Kept Pending h = absurd (cc h)
stays_done Kept Done h = refl
stays_done Failed Due h = refl
stays_done Failed Pending h = absurd (cc h)
stays_done Failed Done h = refl

stays : (moment : Moment) (s : Slot) → s.saving ≡ Done → with_saving (saving_after moment) s ≡ s
stays moment s h = ap (λ z. record s { saving = z }) (stays_done moment s.saving h)

pub passed_by : (moment : Moment) (i j : ℕ) (old cur : List Slot) → i ≤ j → ((m : ℕ) → i ≤ m → m < j → LacksAt Unsaved cur m) → Passed (with_saving (saving_after moment)) i old cur → Passed (with_saving (saving_after moment)) j old cur
passed_by moment i j old cur le lacks p = record {
  same_length = p.same_length;
  done = λ k lt. elim (cases_lt k i) [
    | inl less ↦ p.done k less
    | inr more ↦ p.left k more ∙ unchanged (slice_get old k) (λ s at. settled cur k s (lacks k more lt) (p.left k more ∙ at))
  ];
  left = λ k more. p.left k (omega (arith, le, more));
}
  where
    unchanged : (o : Option Slot) → ((s : Slot) → o ≡ Some s → s.saving ≡ Done) → o ≡ option_map (with_saving (saving_after moment)) o
    unchanged None h = refl
    unchanged (Some s) h = ap (λ (z : Slot). Some z) (sym (stays moment s (h s refl)))

-- What isn't due there.

pub not_due : (slots : List Slot) (k : ℕ) → k < length slots → LacksAt Unsaved slots k → not (is_due (saving_at slots k)) ≡ true
unfolding saving_at
not_due slots k lt lacks = elim (slice_get_cases slots k).1 [
  | inl q ↦ ap (λ (o : Option Slot). not (is_due (option_map_or (λ (x : Slot). x.saving) o Due))) q.2 ∙ ap (λ (s : Saving). not (is_due s)) (settled slots k q.0 lacks q.2)
  | inr q ↦ absurd (omega (arith, q.0, lt))
]

-- Searches: what holds below a number, and where blocks are passed over, holds below the next one.

pub full_on : (slots : List Slot) (i j : ℕ) → ((k : ℕ) → k < i → k < length slots → is_garbage (kind_at slots k) ≡ false) → ((k : ℕ) → i ≤ k → k < j → LacksAt Garbage slots k)
    → (k : ℕ) → k < j → k < length slots → is_garbage (kind_at slots k) ≡ false
full_on slots i j before lacks k lt there = elim (cases_lt k i) [
  | inl less ↦ before k less there
  | inr more ↦ alive slots k there (lacks k more lt)
]

pub unmarked_on : (slots : List Slot) (i j : ℕ) → ((k : ℕ) → k < i → mark_at slots k ≡ None) → ((k : ℕ) → i ≤ k → k < j → LacksAt Marked slots k) → (k : ℕ) → k < j → mark_at slots k ≡ None
unmarked_on slots i j before lacks k lt = elim (cases_lt k i) [
  | inl less ↦ before k less
  | inr more ↦ unmarked slots k (lacks k more lt)
]

-- the same, where that number was looked at
pub full_next : (slots : List Slot) (i j : ℕ) → ((k : ℕ) → k < i → k < length slots → is_garbage (kind_at slots k) ≡ false) → is_garbage (kind_at slots i) ≡ false
    → ((k : ℕ) → i + 1 ≤ k → k < j → LacksAt Garbage slots k) → (k : ℕ) → k < j → k < length slots → is_garbage (kind_at slots k) ≡ false
full_next slots i j before here = full_on slots (i + 1) j (λ k lt there. elim (cases_lt k i) [
  | inl less ↦ before k less there
  | inr more ↦ let same : i ≡ k = omega (arith, lt, more) in subst (λ z. is_garbage (kind_at slots z) ≡ false) same here
])

pub unmarked_next : (slots : List Slot) (i j : ℕ) → ((k : ℕ) → k < i → mark_at slots k ≡ None) → mark_at slots i ≡ None → ((k : ℕ) → i + 1 ≤ k → k < j → LacksAt Marked slots k) → (k : ℕ) → k < j → mark_at slots k ≡ None
unmarked_next slots i j before here = unmarked_on slots (i + 1) j (λ k lt. elim (cases_lt k i) [
  | inl less ↦ before k less
  | inr more ↦ let same : i ≡ k = omega (arith, lt, more) in subst (λ z. mark_at slots z ≡ None) same here
])

-- What is left out of the records.

past_one : (base : List Stored) (es : List Entry) (k : ℕ) (records : List Stored) → length es ≤ k → LeftOut base es k records → LeftOut base es (k + 1) records
unfolding stored_from
past_one base es k records past left rest h =
    let here : LeavesOut base [] rest = subst (λ (xs : List Entry). LeavesOut base (stored_from es (k + 1) xs) rest) (drop_all (k + 1) es (omega (arith, past))) h in
    left rest (subst (λ (xs : List Entry). LeavesOut base (stored_from es k xs) rest) (sym (drop_all k es past)) here)

left_one : (base : List Stored) (es : List Entry) (k : ℕ) (records : List Stored) → (k < length es → slice_get base k ≡ stored_at es k) → LeftOut base es k records → LeftOut base es (k + 1) records
left_one base es k records kept left = elim (cases_lt k (length es)) [
  | inl lt ↦ left_over base es k records lt (kept lt) left
  | inr past ↦ past_one base es k records past left
]

left_run : (base : List Stored) (es : List Entry) (records : List Stored) (d i : ℕ) → ((k : ℕ) → i ≤ k → k < i + d → k < length es → slice_get base k ≡ stored_at es k) → LeftOut base es i records → LeftOut base es (i + d) records
left_run base es records zero i kept left = let same : i ≡ i + 0 = omega arith in subst (λ n. LeftOut base es n records) same left
left_run base es records (suc d) i kept left =
    let same : (i + 1) + d ≡ i + suc d = omega arith in
    subst (λ n. LeftOut base es n records) same (left_run base es records d (i + 1) (λ k le lt. kept k (omega (arith, le)) (omega (arith, lt))) (left_one base es i records (kept i (omega arith) (omega arith)) left))

pub left_on : (base : List Stored) (es : List Entry) (records : List Stored) (i j : ℕ) → i ≤ j → ((k : ℕ) → i ≤ k → k < j → k < length es → slice_get base k ≡ stored_at es k) → LeftOut base es i records → LeftOut base es j records
left_on base es records i j le kept left =
    let same : i + (j - i) ≡ j = omega (arith, le) in
    subst (λ n. LeftOut base es n records) same (left_run base es records (j - i) i (λ k more less. kept k more (omega (arith, le, less))) left)
