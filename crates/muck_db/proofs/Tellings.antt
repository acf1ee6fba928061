-- What is to be told.
use Rattle.std.proofs.Common.{◌≡◌, ℕ, ◌+◌, ◌<◌, ◌≤◌, zero, suc, List, [], ◌∷◌, Option, Some, None, inl, inr, refl, sym, ◌∙◌, ap, subst, length, arith, Result, Ok, Bool, true, false}
use Rattle.std.proofs.lemmas.Bool.{cases_eq}
use Rattle.std.specs.List.{slice_get}
use Rattle.std.specs.Option.{option_map, option_and_then, option_map_or}
use Rattle.muck_model.specs.declared.dbref.Kind.TheVariants.{Garbage}
use Rattle.spec_live.specs.declared.object.Object.{Object}
use Rattle.spec_live.specs.declared.mark.Mark.{Mark}
use Rattle.spec_live.specs.declared.fault.DbFault.{DbFault}
use Rattle.spec_live.specs.Objects.{Entry, changed_at, is_garbage, garbage, mark_in, is_player}
use Rattle.spec_live.specs.Marks.{entry_unmarked, marked_from, told_of, next_change, change_told}
use Rattle.spec_live.specs.Moving.{Does}
use Rattle.spec_live.specs.Setting.{with_lines, lines_set}
use Rattle.spec_live.specs.Consistent.{IsConsistent}
use Rattle.spec_live.proofs.Lists.{get_changed_same, get_changed_other}
use Rattle.spec_live.proofs.StartLaws.{consistent_told}
use Rattle.muck_db.specs.declared.slot.Slot.{Slot}
use Rattle.muck_db.specs.inner.Slots.{shown, object_at, first_of, kind_at, mark_at, with_mark, with_slot_lines, with_source, entry_of, entries_of, IsKept}
use Rattle.muck_db.specs.inner.Limits.{IsWithinLimits}
use Rattle.muck_db.proofs.LimitLaws.{limits_told}
use Rattle.muck_db.proofs.Readers.{length-entries_of, mark_in-entries_of}
use Rattle.muck_db.proofs.Writes.{alive_slot, entries_changed, ends_changed, entries_with_mark, ends_with_mark}

marked_at : (es : List Entry) (n k : ℕ) (mark : Mark) → ((j : ℕ) → j < k → mark_in es j ≡ None) → mark_in es k ≡ Some mark → (m : ℕ) → m ≡ n + k → marked_from n es ≡ Some (m, mark)
unfolding marked_from mark_in
marked_at [] n k mark below here m e = absurd (cc (here))
marked_at (x ∷ es) n zero mark below here m e = rw here (ap (λ (z : ℕ). Some (z, mark)) (omega arith))
marked_at (x ∷ es) n (suc k) mark below here m e = rw (below 0 (omega arith)) (marked_at es (suc n) k mark (λ j lt. below (suc j) (omega arith)) here m (omega arith))

marked_never : (es : List Entry) (n : ℕ) → ((j : ℕ) → j < length es → mark_in es j ≡ None) → marked_from n es ≡ None
unfolding marked_from mark_in
marked_never [] n none = refl
marked_never (x ∷ es) n none = rw (none 0 (omega arith)) (marked_never es (suc n) (λ j lt. none (suc j) (omega arith)))

pub marked_some : (slots : List Slot) (k : ℕ) (mark : Mark) → ((j : ℕ) → j < k → mark_at slots j ≡ None) → mark_at slots k ≡ Some mark → marked_from 0 (entries_of slots) ≡ Some (k, mark)
marked_some slots k mark below here = marked_at (entries_of slots) 0 k mark (λ j lt. mark_in-entries_of slots j ∙ below j lt) (mark_in-entries_of slots k ∙ here) k (omega arith)

pub marked_none : (slots : List Slot) → ((j : ℕ) → j < length slots → mark_at slots j ≡ None) → marked_from 0 (entries_of slots) ≡ None
marked_none slots none = marked_never (entries_of slots) 0 (λ j lt. mark_in-entries_of slots j ∙ none j (omega (arith, length-entries_of slots)))

-- telling

pub next_none : (es : List Entry) → marked_from 0 es ≡ None → next_change es ≡ None
unfolding next_change
next_none es h = rw h refl

pub told_none : (es : List Entry) → marked_from 0 es ≡ None → change_told es ≡ es
unfolding change_told
told_none es h = rw h refl

pub next_some : (es : List Entry) (n : ℕ) (mark : Mark) → marked_from 0 es ≡ Some (n, mark) → next_change es ≡ Some (told_of (n, mark))
unfolding next_change
next_some es n mark h = rw h refl

told_some : (es : List Entry) (n : ℕ) (mark : Mark) → marked_from 0 es ≡ Some (n, mark) → change_told es ≡ changed_at n entry_unmarked es
unfolding change_told
told_some es n mark h = rw h refl

pub entries_told : (old new : List Slot) (n : ℕ) (mark : Mark) → marked_from 0 (entries_of old) ≡ Some (n, mark) → new ≡ changed_at n (with_mark None) old → entries_of new ≡ change_told (entries_of old)
entries_told old new n mark h is = ap (λ (z : List Slot). entries_of z) is ∙ entries_with_mark n None old ∙ sym (told_some (entries_of old) n mark h)

mark_cleared : (n : ℕ) (slots : List Slot) → mark_at (changed_at n (with_mark None) slots) n ≡ None
unfolding mark_at
mark_cleared n slots = rw (get_changed_same slots n (with_mark None)) (by_cases (slice_get slots n))
  where
    by_cases : (o : Option Slot) → option_and_then (λ (s : Slot). s.mark) (option_map (with_mark None) o) ≡ None
    by_cases None = refl
    by_cases (Some s) = refl

mark_other : (n k : ℕ) (f : Slot → Slot) (slots : List Slot) → (k ≡ n → ⊥) → mark_at (changed_at n f slots) k ≡ mark_at slots k
unfolding mark_at
mark_other n k f slots ne = ap (λ (o : Option Slot). option_and_then (λ (s : Slot). s.mark) o) (get_changed_other slots n k f ne)

kind_kept : (n k : ℕ) (f : Slot → Slot) (slots : List Slot) → ((s : Slot) → (shown (f s)).kind ≡ (shown s).kind) → kind_at (changed_at n f slots) k ≡ kind_at slots k
unfolding kind_at object_at
kind_kept n k f slots h = elim (cases_eq k n) [
  | inl e ↦ rw (e, get_changed_same slots n f) (by_cases (slice_get slots n))
  | inr e ↦ rw (get_changed_other slots n k f e) refl
]
  where
    by_cases : (o : Option Slot) → option_map_or (λ (x : Object). x.kind) (option_map shown (option_map f o)) Garbage ≡ option_map_or (λ (x : Object). x.kind) (option_map shown o) Garbage
    by_cases None = refl
    by_cases (Some s) = h s

pub kept_told : (old new : List Slot) (n lowest told : ℕ) (players : List ℕ) (mark : Mark) → marked_from 0 (entries_of old) ≡ Some (n, mark) → ((k : ℕ) → k < n → mark_at old k ≡ None) → new ≡ changed_at n (with_mark None) old
    → IsKept old lowest told players → IsKept new lowest (n + 1) players
kept_told old new n lowest told players mark h below is kept =
    let C : List Entry → Type 0 = λ z. IsConsistent z in
    record {
      sound = record { ends = ends_with_mark n None old new is kept.sound.ends; world = subst C (sym (entries_told old new n mark h is)) (consistent_told (entries_of old) kept.sound.world); limits = subst IsWithinLimits (sym (entries_told old new n mark h is)) (limits_told (entries_of old) kept.sound.limits) };
      full = λ k lt. rw (is, kind_kept n k (with_mark None) old (λ s. refl)) (kept.full k lt);
      unmarked = λ k lt. elim (cases_eq k n) [
        | inl e ↦ ap (λ (z : List Slot). mark_at z k) is ∙ ap (λ z. mark_at (changed_at n (with_mark None) old) z) e ∙ mark_cleared n old
        | inr e ↦ ap (λ (z : List Slot). mark_at z k) is ∙ mark_other n k (with_mark None) old e ∙ below k (omega arith)
      ];
      listed = λ k h. kept.listed k (ap is_player (sym (kind_kept n k (with_mark None) old (λ s. refl)) ∙ ap (λ (z : List Slot). kind_at z k) (sym is)) ∙ h);
    }

-- lines

lines_entry : (lines : List (List ℕ)) (slots : List Slot) (s : Slot) → (o : Object) × (s.object ≡ Some o) → entry_of slots (with_slot_lines lines s) ≡ with_lines lines (entry_of slots s)
unfolding entry_of
lines_entry lines slots s q = rw q.1 refl

lines_first : (lines : List (List ℕ)) (v : Bool) (s : Slot) → first_of v (with_slot_lines lines s) ≡ first_of v s
lines_first lines true s = refl
lines_first lines false s = refl

lines_kind : (lines : List (List ℕ)) (s : Slot) → (shown (with_slot_lines lines s)).kind ≡ (shown s).kind
lines_kind lines s = by_cases s.object refl
  where
    by_cases : (o : Option Object) → s.object ≡ o → (option_map_or (λ (x : Object). x) (option_map (with_source lines) s.object) garbage).kind ≡ (option_map_or (λ (x : Object). x) s.object garbage).kind
    by_cases None e = rw e refl
    by_cases (Some o) e = rw e refl

pub entries_lined : (old new : List Slot) (n : ℕ) (lines : List (List ℕ)) → is_garbage (kind_at old n) ≡ false → new ≡ changed_at n (with_slot_lines lines) old → entries_of new ≡ lines_set lines n (entries_of old)
entries_lined old new n lines alive is = ap (λ (z : List Slot). entries_of z) is ∙ entries_changed n (with_slot_lines lines) (with_lines lines) old (λ s. refl) (λ s e. lines_entry lines old s (alive_slot old n s e alive))

pub kept_lined : (old new : List Slot) (n lowest told less : ℕ) (players : List ℕ) (lines : List (List ℕ)) → is_garbage (kind_at old n) ≡ false → new ≡ changed_at n (with_slot_lines lines) old → less ≤ told → less ≤ n
    → IsConsistent (lines_set lines n (entries_of old)) → IsWithinLimits (lines_set lines n (entries_of old)) → IsKept old lowest told players → IsKept new lowest less players
kept_lined old new n lowest told less players lines alive is le below world limits kept =
    let C : List Entry → Type 0 = λ z. IsConsistent z in
    record {
      sound = record { ends = ends_changed n (with_slot_lines lines) old new is (λ s. refl) (lines_first lines) kept.sound.ends; world = subst C (sym (entries_lined old new n lines alive is)) world; limits = subst IsWithinLimits (sym (entries_lined old new n lines alive is)) limits };
      full = λ k lt. rw (is, kind_kept n k (with_slot_lines lines) old (lines_kind lines)) (kept.full k lt);
      unmarked = λ k lt. ap (λ (z : List Slot). mark_at z k) is ∙ mark_other n k (with_slot_lines lines) old (λ e. omega (arith, e)) ∙ kept.unmarked k (omega arith);
      listed = λ k h. kept.listed k (ap is_player (sym (kind_kept n k (with_slot_lines lines) old (lines_kind lines)) ∙ ap (λ (z : List Slot). kind_at z k) (sym is)) ∙ h);
    }

pub lined : (lines : List (List ℕ)) (check : Result ℕ DbFault) (n : ℕ) (old new : List Entry) → check ≡ Ok n → new ≡ lines_set lines n old → Does (lines_set lines) check old new (Ok tt)
lined lines check n old new e is = let P : Result ℕ DbFault → Type 0 = λ r. Does (lines_set lines) r old new (Ok tt) in subst P (sym e) (refl, is)
