-- A dump begins, and is pending until it is written.
use Rattle.std.proofs.Common.{◌≡◌, ℕ, suc, List, [], ◌∷◌, length, refl, sym, ap, ◌∙◌, subst, arith, Option, Some, None}
use Rattle.std.specs.Prelude.{slice_get, All}
use Rattle.muck_laws.proofs.Lists.{length_last}
use Rattle.muck_laws.proofs.Places.{got_on}
use Rattle.muck_model.specs.declared.event.Event.TheVariants.{Cut, Died}
use Rattle.muck_model.specs.declared.note.Note.{Note}
use Rattle.muck_codec.specs.declared.stored.Batch.{Batch}
use Rattle.muck_codec.specs.declared.stored.Stored.{Stored}
use Rattle.muck_codec.specs.inner.Stored.{IsStored}
use Rattle.muck_db.specs.inner.Limits.{IsWithinLimits}
use Rattle.muck_store.specs.inner.Changes.{LeavesOut}
use Rattle.muck_store.specs.Forms.{persist}
use Rattle.muck_model.specs.Parameters.{IsInRange}
use Rattle.spec_live.specs.Consistent.{IsConsistent}
use Rattle.muck_log.specs.File.{after_number}
use Rattle.muck_log.specs.Store.{LogState, IsMounted}
use Rattle.spec_events.specs.World.{World}
use Rattle.spec_events.specs.Histories.{History, now, entered, noted}
use Rattle.spec_dumps.specs.Survival.{HasNumber, IsSafe}
use Rattle.spec_dumps.specs.inner.Holding.{Quietly, Keeps, FailedLast}
use Rattle.spec_dumps.proofs.Quiet.{quiet_one, safe_quiet, keeps_quiet, rests_quiet, same_cut, same_number, rises_quiet}
use Rattle.spec_dumps.proofs.Cutting.{rests_on, cut_noted, number_mounted, number_failed, number_end}
use Rattle.muck_dumping.specs.declared.parts.Pending.{Pending}
use Rattle.muck_dumping.specs.inner.Dumps.{note_of, by, HasRisen}
use Rattle.muck_dumping.specs.inner.Between.{IsReady, IsBatchOfWorld, base_in, IsPending}
use Rattle.muck_dumping.proofs.Steps.{at_note}
use Rattle.muck_dumping.proofs.Marks.{batch_at_cut}

-- what a Cut hands out is the batch of the world, where it says all of it
pub batch_cut : (base taken : List Stored) (w : World) (p : Pending) (batch : Batch) → p.batch ≡ batch → taken ≡ base → p.size ≡ length w.live.objects → LeavesOut taken (persist w.live.objects) batch.records → All IsStored batch.records → batch.tune ≡ w.live.board.tune →
    IsConsistent w.live.objects → IsWithinLimits w.live.objects → IsInRange w.live.board.tune → IsBatchOfWorld base w p
batch_cut base taken w p batch is over size records storable tuning consistent limits tuned = record {
  records =
      subst (λ (b : Batch). LeavesOut base (persist w.live.objects) b.records) (sym is)
      (subst (λ (os : List Stored). LeavesOut os (persist w.live.objects) batch.records) over records);
  storable = subst (λ (b : Batch). All IsStored b.records) (sym is) storable;
  tuning = ap (λ (b : Batch). b.tune) is ∙ tuning;
  size = size;
  consistent = consistent;
  limits = limits;
  tuned = tuned;
}

-- what is said of a batch behind a note
pub batch_noted : (base : List Stored) (h k : History) (note : Note) (p : Pending) → k ≡ noted h note → IsBatchOfWorld base (now k) p → IsBatchOfWorld base (now h) p
batch_noted base h k note p is batch = at_note (λ (w : World). IsBatchOfWorld base w p) h k note is batch

module _ {D : Type 0} (seen : D → List ℕ) (moment : D → ℕ) (images : D → ℕ → List ℕ → Type 0) (faults : D → ℕ) (log : Option LogState) (f s : D) (mounted : ℕ) where
  -- Memory was wanted, behind a note or without one.

  pub died_noted : (h k : History) (party : ℕ) → Keeps seen moment images faults log f s mounted h → k ≡ entered (noted h (note_of moment faults f s h)) (by party Died) → IsSafe moment images faults f s k.start mounted k.entries k.notes
  died_noted h k party v is =
      (rests_on seen moment images faults log f s mounted h (note_of moment faults f s h) (by party Died) k is v (refl, refl) (refl, refl) refl refl (λ n before there got fails. cc) (λ n i at cuts. cc)).keeps.safe

  pub died_here : (h k : History) (party : ℕ) → Keeps seen moment images faults log f s mounted h → k ≡ entered h (by party Died) → IsSafe moment images faults f s k.start mounted k.entries k.notes
  died_here h k party v is = safe_quiet moment images faults f s mounted h k (quiet_one h k (by party Died) refl is) v.safe

  pub mounted_there : (h : History) → Keeps seen moment images faults log f s mounted h → (x : LogState) → log ≡ Some x → IsMounted seen moment images x f s
  mounted_there h v x is = (subst (λ (l : Option LogState). Keeps seen moment images faults l f s mounted h) is v).usable.0

  -- It begins.
  module _ (h : History) (party n : ℕ) (p : Pending) (ready : IsReady seen moment images faults log f s mounted h) (batch : IsBatchOfWorld (base_in log) (now h) p)
      (left : (x : D) → images x (moment x) (seen x)) (number : (x : LogState) → log ≡ Some x → n ≡ after_number x.chosen.held.number) (failed : log ≡ None → FailedLast n h) where
    abbrev note : Note
    note = note_of moment faults f s h

    abbrev begun : History
    begun = entered (noted h note) (by party (Cut n))

    -- the note before that of the Cut was the last one
    before_is : (i : ℕ) (before : Note) → suc (suc i) ≡ length begun.notes → slice_get begun.notes i ≡ Some before → (slice_get h.notes i ≡ Some before) × (length h.notes ≡ suc i)
    before_is i before end there =
        let last : length h.notes ≡ suc i = omega (arith, end, length_last h.notes note) in
        (sym (got_on h.notes (note ∷ []) i (omega (arith, last))) ∙ there, last)

    has_number : (o : Option LogState) → log ≡ o → HasNumber images f s h.entries h.notes ready.keeps.last note n
    has_number None is = let v = failed is in number_failed images f s h note ready.keeps.last n ready.keeps.end v (ready.risen is v.last v.note v.is v.end)
    has_number (Some x) is = number_mounted seen moment images x f s h note ready.keeps.last n (mounted_there h ready.keeps x is) (left f) (left s) (refl, refl) (number x is)

    pub pending_begun : IsPending seen moment images faults log f s mounted begun p
    pending_begun = record {
      rests = cut_noted seen moment images faults log f s mounted h begun note party n ready.keeps refl refl (refl, refl) (refl, refl) (has_number log refl);
      number = λ x is. number_end mounted h.entries party n ∙ number x is;
      batch = batch_at_cut (base_in log) h begun note party n p refl batch;
      fails = λ is. λ i before end there. let it = before_is i before end there in ready.risen is i before it.0 it.1;
    }

    pub pending_as : (k : History) → k ≡ begun → IsPending seen moment images faults log f s mounted k p
    pending_as k is = subst (λ (x : History). IsPending seen moment images faults log f s mounted x p) (sym is) pending_begun

  -- It stays so while others go on.
  module _ (h k : History) (q : Quietly h k) where
    notes_on : length k.notes ≡ length h.notes
    notes_on = ap (λ (ns : List Note). length ns) q.grew.notes

    pub risen_quiet : HasRisen faults f s h → HasRisen faults f s k
    risen_quiet rose n note is end = rose n note (ap (λ (ns : List Note). slice_get ns n) (sym q.grew.notes) ∙ is) (sym notes_on ∙ end)

    pub ready_quiet : IsReady seen moment images faults log f s mounted h → IsReady seen moment images faults log f s mounted k
    ready_quiet v = record { keeps = keeps_quiet seen moment images faults log f s mounted h k q v.keeps; risen = λ is. risen_quiet (v.risen is) }

    pub pending_quiet : (p : Pending) → IsPending seen moment images faults log f s mounted h p → IsPending seen moment images faults log f s mounted k p
    pending_quiet p v =
        let placed = v.rests.keeps.safe.survives.placed in
        record {
          rests = rests_quiet seen moment images faults log f s mounted h k q v.rests;
          number = λ x is. same_number mounted h k q placed ∙ v.number x is;
          batch = subst (λ (w : World). IsBatchOfWorld (base_in log) w p) (sym (same_cut mounted h k q placed)) v.batch;
          fails = λ is. rises_quiet h k q faults f s (v.fails is);
        }
