-- The change marks at the moments of a dump, and what a dump may leave out.
use Rattle.std.proofs.Common.{◌≡◌, ℕ, ◌<◌, List, refl, sym, ◌∙◌, ap, subst, map, length, Bool, true, false, not}
use Rattle.std.proofs.lemmas.Bool.{false≢true}
use Rattle.std.specs.List.{slice_get}
use Rattle.spec_live.specs.declared.saving.Saving.{Saving}
use Rattle.spec_live.specs.Objects.{Entry, is_player, kind_in}
use Rattle.spec_live.specs.Consistent.{IsConsistent}
use Rattle.spec_live.specs.Saving.{is_due, saving_in, on_saving, all_saving}
use Rattle.spec_live.proofs.Savings.{length_resaved, object_resaved, list_resaved, mark_resaved, kind_resaved}
use Rattle.spec_live.proofs.Ties.{consistent_seen}
use Rattle.muck_codec.specs.declared.stored.Stored.{Stored}
use Rattle.muck_store.proofs.StoredForms.{get_persist}
use Rattle.muck_db.specs.declared.cut.Extent.{Extent}
use Rattle.muck_db.specs.declared.cut.Extent.TheVariants.{WhatIsDue, Everything}
use Rattle.muck_db.specs.declared.slot.Slot.{Slot}
use Rattle.muck_db.specs.inner.Dumps.{MayLook, passes}
use Rattle.muck_db.specs.inner.Kept.{stored_at}
use Rattle.muck_db.specs.inner.Limits.{IsWithinLimits}
use Rattle.muck_db.specs.inner.Slots.{saving_at, first_of, with_saving, entry_of, entries_of, IsKept}
use Rattle.muck_db.proofs.LimitLaws.{limits_resaved}
use Rattle.muck_db.proofs.Readers.{kind_in-entries_of, mark_in-entries_of, saving_in-entries_of}
use Rattle.muck_db.proofs.Writes.{entries_mapped, ends_mapped}

-- All objects pass a moment.

passed_entry : (f : Saving → Saving) (slots : List Slot) (s : Slot) → entry_of slots (with_saving f s) ≡ on_saving f (entry_of slots s)
unfolding entry_of
passed_entry f slots s = refl

passed_first : (f : Saving → Saving) (v : Bool) (s : Slot) → first_of v (with_saving f s) ≡ first_of v s
passed_first f true s = refl
passed_first f false s = refl

pub entries_passed : (f : Saving → Saving) (old new : List Slot) → new ≡ map (with_saving f) old → entries_of new ≡ all_saving f (entries_of old)
unfolding all_saving
entries_passed f old new is = ap (λ (z : List Slot). entries_of z) is ∙ entries_mapped (with_saving f) (on_saving f) old (λ s. refl) (passed_entry f old)

pub kept_passed : (f : Saving → Saving) (old new : List Slot) (lowest told : ℕ) (players : List ℕ) → new ≡ map (with_saving f) old → IsKept old lowest told players → IsKept new lowest told players
kept_passed f old new lowest told players is kept =
    let es : List Entry = entries_of old in
    let entries : entries_of new ≡ all_saving f es = entries_passed f old new is in
    let C : List Entry → Type 0 = λ z. IsConsistent z in
    record {
      sound = record {
        ends = ends_mapped (with_saving f) old new is (λ s. refl) (passed_first f) kept.sound.ends;
        world = subst C (sym entries) (consistent_seen es (all_saving f es) (length_resaved f es) (λ k. object_resaved f k es) (λ v k. list_resaved v f k es) kept.sound.world);
        limits = subst IsWithinLimits (sym entries) (limits_resaved f es kept.sound.limits);
      };
      full = λ k lt. rw (← kind_in-entries_of new k, entries, kind_resaved f k es, kind_in-entries_of old k) (kept.full k lt);
      unmarked = λ k lt. rw (← mark_in-entries_of new k, entries, mark_resaved f k es, mark_in-entries_of old k) (kept.unmarked k lt);
      listed = λ k h. kept.listed k (ap is_player (sym (kind_in-entries_of old k) ∙ sym (kind_resaved f k es) ∙ ap (λ (z : List Entry). kind_in z k) (sym entries) ∙ kind_in-entries_of new k) ∙ h);
    }

-- the same, of the objects as contracts see them
pub passes_all : (f : Saving → Saving) (old new : List Slot) (es : List Entry) → entries_of old ≡ es → new ≡ map (with_saving f) old → entries_of new ≡ all_saving f es
passes_all f old new es e is = entries_passed f old new is ∙ ap (λ (z : List Entry). all_saving f z) e

-- What isn't looked at.

undue : (s : Saving) → not (is_due s) ≡ true → is_due s ≡ false
undue s h = by_cases (is_due s) h
  where
    by_cases : (b : Bool) → not b ≡ true → b ≡ false
    by_cases true q = absurd (false≢true q)
    by_cases false q = refl

-- is kept so
pub kept_unseen : (extent : Extent) (base : List Stored) (slots : List Slot) (k : ℕ) → MayLook extent base (entries_of slots) → passes extent (saving_at slots k) ≡ true → slice_get base k ≡ stored_at (entries_of slots) k
kept_unseen WhatIsDue base slots k may h = may k (ap (λ s. is_due s) (saving_in-entries_of slots k) ∙ undue (saving_at slots k) h) ∙ get_persist (entries_of slots) k
kept_unseen Everything base slots k may h = absurd (false≢true h)
