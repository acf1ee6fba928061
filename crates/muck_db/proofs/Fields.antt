-- A field that was set keeps the rule of the type.
use Rattle.std.proofs.Common.{◌≡◌, ℕ, List, refl, sym, ◌∙◌, ap, subst, Result, Ok, false}
use Rattle.spec_live.specs.declared.object.Object.{Object}
use Rattle.spec_live.specs.declared.fault.DbFault.{DbFault}
use Rattle.spec_live.specs.Objects.{Entry, changed_at, on_object, is_garbage, is_player, kind_in}
use Rattle.spec_live.specs.Moving.{Does}
use Rattle.spec_live.specs.Setting.{Tries, set_at}
use Rattle.spec_live.specs.Consistent.{IsConsistent}
use Rattle.spec_live.proofs.Readers.{kind_changed, mark_changed}
use Rattle.muck_db.specs.declared.slot.Slot.{Slot}
use Rattle.muck_db.specs.inner.Slots.{kind_at, on_slot, entries_of, IsKept}
use Rattle.muck_db.specs.inner.Limits.{IsWithinLimits}
use Rattle.muck_db.proofs.Readers.{kind_in-entries_of, mark_in-entries_of}
use Rattle.muck_db.proofs.Writes.{entries_on_slot, ends_on_slot}

pub entries_set : (n : ℕ) (f : Object → Object) (old new : List Slot) → is_garbage (kind_at old n) ≡ false → new ≡ changed_at n (on_slot f) old → entries_of new ≡ set_at f n (entries_of old)
entries_set n f old new alive is = ap (λ (z : List Slot). entries_of z) is ∙ entries_on_slot n f old alive

pub kept_set : (n : ℕ) (f : Object → Object) (old new : List Slot) (lowest told : ℕ) (players : List ℕ) → ((o : Object) → (f o).kind ≡ o.kind) → is_garbage (kind_at old n) ≡ false → new ≡ changed_at n (on_slot f) old
    → IsConsistent (set_at f n (entries_of old)) → IsWithinLimits (set_at f n (entries_of old)) → IsKept old lowest told players → IsKept new lowest told players
kept_set n f old new lowest told players same alive is world limits kept =
    let es : List Entry = entries_of old in
    let entries : entries_of new ≡ changed_at n (on_object f) es = entries_set n f old new alive is in
    let C : List Entry → Type 0 = λ z. IsConsistent z in
    record {
      sound = record { ends = ends_on_slot n f old new is kept.sound.ends; world = subst C (sym entries) world; limits = subst IsWithinLimits (sym entries) limits };
      full = λ k lt. rw (← kind_in-entries_of new k, entries, kind_changed n k f es same, kind_in-entries_of old k) (kept.full k lt);
      unmarked = λ k lt. rw (← mark_in-entries_of new k, entries, mark_changed n k f es, mark_in-entries_of old k) (kept.unmarked k lt);
      listed = λ k h. kept.listed k (ap is_player (sym (kind_in-entries_of old k) ∙ sym (kind_changed n k f es same) ∙ ap (λ (z : List Entry). kind_in z k) (sym entries) ∙ kind_in-entries_of new k) ∙ h);
    }

pub did : (f : Object → Object) (check : Result ℕ DbFault) (n : ℕ) (old new : List Entry) → check ≡ Ok n → new ≡ set_at f n old → Does (set_at f) check old new (Ok tt)
did f check n old new e is = let P : Result ℕ DbFault → Type 0 = λ r. Does (set_at f) r old new (Ok tt) in subst P (sym e) (refl, is)

pub tried : (f : Object → Object) (check : Result ℕ DbFault) (n : ℕ) (old new : List Entry) → check ≡ Ok n → new ≡ set_at f n old → Tries (set_at f) check old new (Ok tt)
tried f check n old new e is = let P : Result ℕ DbFault → Type 0 = λ r. Tries (set_at f) r old new (Ok tt) in subst P (sym e) is
