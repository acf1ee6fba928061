-- A dump that began fails.
use Rattle.std.proofs.Common.{◌≡◌, inl, inr, ℕ, ◌<◌, suc, List, [], ◌∷◌, ◌++◌, length, take, refl, sym, ap, ◌∙◌, subst, arith, Option, Some}
use Rattle.std.specs.Prelude.{slice_get}
use Rattle.std.proofs.lemmas.List.{take_all, take-append-le}
use Rattle.muck_laws.proofs.Lists.{length_last}
use Rattle.muck_laws.proofs.Places.{got_last, got_on}
use Rattle.muck_model.specs.declared.event.Entry.{Entry}
use Rattle.muck_model.specs.declared.event.Event.TheVariants.{DumpFailed}
use Rattle.muck_model.specs.declared.note.Note.{Note}
use Rattle.muck_log.specs.Store.{LogState}
use Rattle.spec_events.specs.Histories.{History, entered, noted}
use Rattle.spec_dumps.specs.Fronts.{at_cut, IsFront, Overflows}
use Rattle.spec_dumps.specs.Survival.{RoseInLast}
use Rattle.spec_dumps.specs.inner.Holding.{IsAt, IsCounted, Keeps, Rests, RisesInDump, Fails}
use Rattle.spec_dumps.proofs.Moving.{held_noted}
use Rattle.spec_dumps.proofs.Noting.{front_noted}
use Rattle.spec_dumps.proofs.Cutting.{FailsBy, rests_next}

-- The last note of the history h is that of the Cut; the disks are f and s at the end of the dump, and the log is what is left of it.
pub failed_rests : {D : Type 0} (seen : D → List ℕ) (moment : D → ℕ) (images : D → ℕ → List ℕ → Type 0) (faults : D → ℕ) (log : Option LogState) (f s : D) (mounted : ℕ) (h : History) → Keeps seen moment images faults log f s mounted h →
    (note : Note) → IsAt moment f s note → IsCounted faults f s note → note.entries ≡ length h.entries → Fails moment images faults f s mounted h → (party n : ℕ) →
    Rests seen moment images faults log f s mounted (entered (noted h note) (record { party = party; event = DumpFailed n }))
failed_rests seen moment images faults log f s mounted h v note here count behind cause party n = rests_next seen moment images faults log f s mounted h note failed v here count behind refl why (λ i k at cuts. cc) where
  failed : Entry
  failed = record { party = party; event = DumpFailed n }

  some : 0 < length h.notes
  some = omega (arith, v.end)

  front : take note.entries (h.entries ++ failed ∷ []) ≡ h.entries
  front = take-append-le note.entries h.entries (failed ∷ []) (omega (arith, behind)) ∙ take_all note.entries h.entries (omega (arith, behind))

  why : FailsBy images f s mounted h note failed
  why i before at there fails = record {
    cause = elim cause [
      | inl rose ↦ inl (elim (rose i before at there) [ inl r ↦ inl (omega (arith, r, count.0)) | inr r ↦ inr (omega (arith, r, count.1)) ])
      | inr full ↦ (
          let last : full.1.last ≡ suc i = omega (arith, at, full.1.end) in
          inr (
            full.0,
            held_noted moment images f s note full.0 here full.1.held,
            front_noted moment images f s h.start mounted h.entries h.notes failed note here behind some (suc i) full.0 v.safe.survives.placed (omega (arith, at)) (subst (λ j. IsFront h.start mounted h.entries h.notes j full.0) last full.1.front),
            subst (λ (es : List Entry). Overflows full.0 (at_cut h.start es)) (sym front) full.1.over,
          )
          )
    ];
  }

-- A count of faults that rose in the dump rose in the last one, once it has ended.
pub rose_last : {D : Type 0} (faults : D → ℕ) (f s : D) (h k : History) (note : Note) (e : Entry) → k ≡ entered (noted h note) e → IsCounted faults f s note → RisesInDump faults f s h → RoseInLast k.notes
rose_last faults f s h k note e is count rose n before x end earlier there =
    let notes : k.notes ≡ h.notes ++ note ∷ [] = ap (λ (y : History). y.notes) is in
    let long : suc (suc n) ≡ length h.notes = omega (arith, end, ap (λ (ns : List Note). length ns) notes, length_last h.notes note) in
    let then : slice_get h.notes n ≡ Some before = sym (got_on h.notes (note ∷ []) n (omega (arith, long))) ∙ ap (λ (ns : List Note). slice_get ns n) (sym notes) ∙ earlier in
    let last : x ≡ note = same (sym there ∙ ap (λ (ns : List Note). slice_get ns (suc (suc n))) notes ∙ ap (slice_get (h.notes ++ note ∷ [])) long ∙ got_last h.notes note) in
    elim (rose n before long then) [
      | inl r ↦ inl (omega (arith, r, count.0, ap (λ (y : Note). y.first_faults) last))
      | inr r ↦ inr (omega (arith, r, count.1, ap (λ (y : Note). y.second_faults) last))
    ]
  where
    same : Some x ≡ Some note → x ≡ note
    same q = cc
