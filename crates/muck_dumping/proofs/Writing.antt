-- The batch of a dump that is pending is written, or it can't be.
use Rattle.std.proofs.Common.{◌≡◌, ◌⊎◌, inl, inr, ℕ, ◌≤◌, true, List, length, refl, sym, ap, ◌∙◌, subst, arith, Option, Some, None, Result, Ok, Err}
use Rattle.std.specs.Prelude.{OnErr}
use Rattle.muck_io.specs.Faults.{Rose}
use Rattle.muck_model.specs.declared.tune.Tune.{Tune}
use Rattle.muck_model.specs.Parameters.{tune_fits}
use Rattle.muck_model.proofs.Parameters.{fits_in_range}
use Rattle.spec_live.specs.Objects.{Entry as Object}
use Rattle.muck_store.specs.inner.Changes.{LeavesOut}
use Rattle.muck_log.specs.World.{StoredWorld as Kept}
use Rattle.muck_log.specs.Store.{Chosen, LogState, LeavesBoth, after_batch}
use Rattle.muck_log.specs.Append.{LoadsEither, base_of, more_of, payload_of}
use Rattle.muck_log.specs.declared.fault.LogFault.{LogFault}
use Rattle.muck_log.specs.declared.fault.LogFault.TheVariants.{NoMemory, DiskFault, Damaged, StoreFull, Stale}
use Rattle.muck_store.specs.Forms.{persist, world_batch}
use Rattle.spec_events.specs.World.{World}
use Rattle.spec_events.specs.Histories.{History}
use Rattle.spec_dumps.specs.Fronts.{Fits, at_cut, dump_payload, dumped_on, log_of, persisted}
use Rattle.spec_dumps.specs.inner.Holding.{Quietly, Keeps, RisesInDump, OverflowsAtCut}
use Rattle.spec_dumps.proofs.Moving.{held_now}
use Rattle.spec_dumps.proofs.Quiet.{keeps_quiet, same_cut, dumped_quiet, overflows_quiet, rises_quiet}
use Rattle.spec_dumps.proofs.Storing.{append_moves, dumped_it}
use Rattle.spec_dumps.proofs.Covering.{front_covered}
use Rattle.muck_dumping.specs.declared.parts.Pending.{Pending}
use Rattle.muck_dumping.specs.inner.Dumps.{Appended, IsAnswer}
use Rattle.muck_dumping.specs.inner.Between.{IsPending, IsLeft, IsWritten, IsFullAtCut}
use Rattle.muck_dumping.proofs.Appending.{two_there}
use Rattle.muck_dumping.proofs.Kept.{payload_is, more_is, dumped_is}

same_kept : (x y : Kept) → Some x ≡ Some y → x ≡ y
same_kept x y e = cc

module _ {D : Type 0} (seen : D → List ℕ) (moment : D → ℕ) (images : D → ℕ → List ℕ → Type 0) (faults : D → ℕ) (mounted : ℕ) (h : History) (p : Pending) where
  module _ (log : LogState) (f s f' s' : D) (v : IsPending seen moment images faults (Some log) f s mounted h p) (left : Option LogState) (r : Result (Unit {0}) LogFault) (shown : (x : D) → images x (moment x) (seen x))
      (a : Appended seen moment images (payload_of log (world_batch (at_cut h.start h.entries).live.objects (at_cut h.start h.entries).live.board.tune)) (persisted (at_cut h.start h.entries)) log left f s f' s' r)
      (first_later : faults f ≤ faults f') (second_later : faults s ≤ faults s') (cause : r ≡ Err DiskFault → Rose (faults f) (faults f') ⊎ Rose (faults s) (faults s')) where
    abbrev world : World
    world = at_cut h.start h.entries

    abbrev payload : List ℕ
    payload = payload_of log (world_batch world.live.objects world.live.board.tune)

    leaves : LeavesBoth moment images f s f' s' (LoadsEither log.chosen (dumped_on log.chosen world))
    leaves = subst (λ (x : Chosen). LeavesBoth moment images f s f' s' (LoadsEither log.chosen x)) (dumped_is log world) a.any

    keeps : Keeps seen moment images faults None f' s' mounted h
    keeps = append_moves seen moment images faults f s mounted h log v.rests v.batch.consistent (v.number log refl) f' s' leaves first_later second_later

    rose_since : Rose (faults f) (faults f') ⊎ Rose (faults s) (faults s') → RisesInDump faults f' s' h
    rose_since rose n before end there =
        let count = v.rests.keeps.safe.rise.past n before there in
        elim rose [ inl x ↦ inl (omega (arith, x, count.0)) | inr x ↦ inr (omega (arith, x, count.1)) ]

    -- the log reckons with its store alone
    size_is : more_of log payload ≡ more_of (log_of log.chosen) (dump_payload log.chosen world)
    size_is = more_is log payload ∙ ap (more_of (log_of log.chosen)) (payload_is log world)

    left_as : (x : Result (Unit {0}) LogFault) → r ≡ x → Appended seen moment images payload (persisted world) log left f s f' s' x → IsLeft seen moment images faults left f' s' mounted h x
    left_as (Ok x) is b =
        let next = b.answer.0 in
        let made = same_kept next.chosen.held.world (persisted world) (sym b.answer.2.makes ∙ b.answer.4) in
        let fits : Fits log.chosen world = omega (arith, b.answer.5, size_is, v.rests.keeps.usable.1) in (
          next,
          b.answer.1,
          b.answer.3,
          b.answer.2.limit ∙ v.rests.keeps.usable.1,
          dumped_it seen moment images faults f s mounted h log v.rests v.batch.consistent (v.number log refl) f' s' leaves (shown f) (shown s) fits next.chosen
              (b.answer.2.chosen ∙ ap (after_batch log.chosen payload) made ∙ dumped_is log world),
        )
    left_as (Err NoMemory) is b = b.answer
    left_as (Err DiskFault) is b = (b.answer, rose_since (cause is))
    left_as (Err (StoreFull end more)) is b =
        let over : OverflowsAtCut moment images f' s' mounted h log.chosen = record {
          last = v.rests.keeps.last;
          end = v.rests.keeps.end;
          held = held_now seen moment images log f' s' b.answer.4 (shown f') (shown s');
          front = v.rests.keeps.usable.2;
          over = omega (arith, b.answer.3, b.answer.1, b.answer.2, size_is, v.rests.keeps.usable.1);
        } in
        let full : IsFullAtCut moment images f' s' mounted h end more = (log.chosen, over, b.answer.1, b.answer.2 ∙ size_is) in
        (b.answer.0, full)
    left_as (Err (Damaged on place)) is b = absurd b.answer
    left_as (Err Stale) is b = absurd b.answer

    pub written : IsWritten seen moment images faults left f' s' mounted h r
    written = record { keeps = keeps; left = left_as r refl a }

  -- where none is mounted
  pub unwritten : (f s : D) → IsPending seen moment images faults None f s mounted h p → IsWritten seen moment images faults None f s mounted h (Err Stale)
  unwritten f s v = record { keeps = v.rests.keeps; left = (refl, v.fails refl) }

-- It stays so while others go on.
module _ {D : Type 0} (seen : D → List ℕ) (moment : D → ℕ) (images : D → ℕ → List ℕ → Type 0) (faults : D → ℕ) (log : Option LogState) (f s : D) (mounted : ℕ) (h k : History) (q : Quietly h k) where
  pub written_quiet : (r : Result (Unit {0}) LogFault) → IsWritten seen moment images faults log f s mounted h r → IsWritten seen moment images faults log f s mounted k r
  written_quiet r v = record { keeps = keeps_quiet seen moment images faults None f s mounted h k q v.keeps; left = at r v.left } where
    at : (x : Result (Unit {0}) LogFault) → IsLeft seen moment images faults log f s mounted h x → IsLeft seen moment images faults log f s mounted k x
    at (Ok x) l = (l.0, l.1, l.2, l.3, dumped_quiet mounted h k q v.keeps.safe.survives.placed images f s l.0.chosen l.4)
    at (Err NoMemory) l = l
    at (Err DiskFault) l = (l.0, rises_quiet h k q faults f s l.1)
    at (Err Stale) l = (l.0, rises_quiet h k q faults f s l.1)
    at (Err (StoreFull end more)) l =
        let full : IsFullAtCut moment images f s mounted k end more = (
          l.1.0,
          overflows_quiet mounted h k q v.keeps.safe.survives.placed moment images f s l.1.0 l.1.1,
          l.1.2,
          l.1.3 ∙ ap (λ (w : World). more_of (log_of l.1.0) (dump_payload l.1.0 w)) (sym (same_cut mounted h k q v.keeps.safe.survives.placed)),
        ) in
        (l.0, full)
    at (Err (Damaged on place)) l = l

-- What the store answers to it, whether a log is mounted or not.
module _ {D : Type 0} (seen : D → List ℕ) (moment : D → ℕ) (images : D → ℕ → List ℕ → Type 0) (faults : D → ℕ) (mounted : ℕ) (h : History) (p : Pending) (f s f' s' : D) (left : Option LogState) (r : Result (Unit {0}) LogFault) where
  abbrev Wrote : Option LogState → Type 0
  Wrote o = (log : LogState) (es : List Object) (tune : Tune) → o ≡ Some log → LeavesOut (base_of log) (persist es) p.batch.records → p.batch.tune ≡ tune → p.size ≡ length es → tune_fits tune ≡ true → 2 ≤ length es → length log.chosen.held.world.objects ≤ length es →
      Appended seen moment images (payload_of log (world_batch es tune)) (record { objects = persist es; tune = tune }) log left f s f' s' r

  -- it keeps no more objects than the world had at its Cut
  covered : (log : LogState) → IsPending seen moment images faults (Some log) f s mounted h p → length log.chosen.held.world.objects ≤ length (at_cut h.start h.entries).live.objects
  covered log v = front_covered h.start mounted h.entries h.notes v.rests.keeps.last log.chosen v.rests.keeps.usable.2

  none_left : (x : Result (Unit {0}) LogFault) → x ≡ Err Stale → OnErr x (left ≡ None) → left ≡ None
  none_left (Ok y) e n = cc
  none_left (Err fault) e n = n

  stays_unwritten : IsPending seen moment images faults None f s mounted h p → r ≡ Err Stale → f' ≡ f → s' ≡ s → OnErr r (left ≡ None) → IsWritten seen moment images faults left f' s' mounted h r
  stays_unwritten v is first second none =
      subst (λ (x : Result (Unit {0}) LogFault). IsWritten seen moment images faults left f' s' mounted h x) (sym is)
      (subst (λ (o : Option LogState). IsWritten seen moment images faults o f' s' mounted h (Err Stale)) (sym (none_left r is none))
      (subst (λ (a : D). IsWritten seen moment images faults None a s' mounted h (Err Stale)) (sym first)
      (subst (λ (b : D). IsWritten seen moment images faults None f b mounted h (Err Stale)) (sym second) (unwritten seen moment images faults mounted h p f s v))))

  pub written_by : (shown : (x : D) → images x (moment x) (seen x)) (o : Option LogState) → IsPending seen moment images faults o f s mounted h p → Wrote o → (o ≡ None → (r ≡ Err Stale) × ((f' ≡ f) × (s' ≡ s))) → OnErr r (left ≡ None) →
      faults f ≤ faults f' → faults s ≤ faults s' → (r ≡ Err DiskFault → Rose (faults f) (faults f') ⊎ Rose (faults s) (faults s')) → IsWritten seen moment images faults left f' s' mounted h r
  written_by shown None v wrote stale none first_later second_later cause = let it = stale refl in stays_unwritten v it.0 it.1.0 it.1.1 none
  written_by shown (Some log) v wrote stale none first_later second_later cause =
      let w : World = at_cut h.start h.entries in
      written seen moment images faults mounted h p log f s f' s' v left r shown
      (wrote log w.live.objects w.live.board.tune refl v.batch.records v.batch.tuning v.batch.size (fits_in_range w.live.board.tune v.batch.tuned) (two_there w.live.objects v.batch.consistent) (covered log v)) first_later second_later cause

  -- `Stale` says that no log was mounted
  pub stale_unmounted : (o : Option LogState) → IsPending seen moment images faults o f s mounted h p → Wrote o → r ≡ Err Stale → o ≡ None
  stale_unmounted None v wrote is = refl
  stale_unmounted (Some log) v wrote is =
      let w : World = at_cut h.start h.entries in
      let a = wrote log w.live.objects w.live.board.tune refl v.batch.records v.batch.tuning v.batch.size (fits_in_range w.live.board.tune v.batch.tuned) (two_there w.live.objects v.batch.consistent) (covered log v) in
      absurd (stale_never r is a.answer)
    where
      stale_never : (x : Result (Unit {0}) LogFault) → x ≡ Err Stale → IsAnswer seen moment images (payload_of log (world_batch (at_cut h.start h.entries).live.objects (at_cut h.start h.entries).live.board.tune)) (persisted (at_cut h.start h.entries)) log left f' s' x → ⊥
      stale_never x e a = subst (λ (y : Result (Unit {0}) LogFault). IsAnswer seen moment images (payload_of log (world_batch (at_cut h.start h.entries).live.objects (at_cut h.start h.entries).live.board.tune)) (persisted (at_cut h.start h.entries)) log left f' s' y) e a
