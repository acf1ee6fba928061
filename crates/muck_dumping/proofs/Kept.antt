-- What of a world is stored, and what of it is written.
use Rattle.std.proofs.Common.{◌≡◌, ℕ, List, refl, sym, ap, subst, ◌∙◌}
use Rattle.muck_log.specs.World.{StoredWorld as Kept}
use Rattle.muck_log.specs.Store.{Chosen, LogState, after_batch}
use Rattle.muck_log.specs.Append.{more_of, payload_of}
use Rattle.muck_model.specs.declared.event.Event.TheVariants.{Stored, DumpFailed}
use Rattle.muck_codec.specs.declared.stored.Batch.{Batch}
use Rattle.spec_live.specs.Saving.{saving_done, due_again}
use Rattle.muck_store.specs.Forms.{persist, world_batch}
use Rattle.muck_store.proofs.Undue.{persist_resaved}
use Rattle.spec_events.specs.World.{World, askers_of}
use Rattle.spec_events.specs.Dumping.{dump_stored, dump_failed, resaved}
use Rattle.spec_events.specs.Steps.{effect}
use Rattle.spec_events.proofs.Quietly.{quiet_told_each}
use Rattle.spec_dumps.specs.Fronts.{dump_payload, dumped_on, log_of, persisted}
use Rattle.muck_dumping.specs.inner.Dumps.{by}

-- the log writes by its store alone
pub payload_is : (log : LogState) (w : World) → payload_of log (world_batch w.live.objects w.live.board.tune) ≡ dump_payload log.chosen w
unfolding payload_of
payload_is log w = refl

pub more_is : (log : LogState) (payload : List ℕ) → more_of log payload ≡ more_of (log_of log.chosen) payload
unfolding more_of
more_is log payload = refl

pub dumped_is : (log : LogState) (w : World) → after_batch log.chosen (payload_of log (world_batch w.live.objects w.live.board.tune)) (persisted w) ≡ dumped_on log.chosen w
dumped_is log w = ap (λ p. after_batch log.chosen p (persisted w)) (payload_is log w)

-- nothing differs that is stored of a world
pub record SameKept (w v : World) : Type 0 where
  pub objects : persist v.live.objects ≡ persist w.live.objects
  pub tune : v.live.board.tune ≡ w.live.board.tune

pub same_stored : (w : World) (party n : ℕ) → SameKept w (effect w (by party (Stored n)))
unfolding effect
same_stored w party n =
    let q = (quiet_told_each (askers_of w.dumps) (dump_stored n)).law (resaved saving_done w.live) in
    record { objects = ap persist q.objects ∙ persist_resaved saving_done w.live.objects; tune = q.tune }

pub same_failed : (w : World) (party n : ℕ) → SameKept w (effect w (by party (DumpFailed n)))
unfolding effect
same_failed w party n =
    let q = (quiet_told_each (askers_of w.dumps) dump_failed).law (resaved due_again w.live) in
    record { objects = ap persist q.objects ∙ persist_resaved due_again w.live.objects; tune = q.tune }

pub same_as : (u w v : World) → SameKept u w → v ≡ w → SameKept u v
same_as u w v p e = subst (SameKept u) (sym e) p

pub persisted_same : (w v : World) → SameKept w v → persisted v ≡ persisted w
persisted_same w v p =
    ap (λ os. let k : Kept = record { objects = os; tune = v.live.board.tune } in k) p.objects
    ∙ ap (λ t. let k : Kept = record { objects = persist w.live.objects; tune = t } in k) p.tune

pub payload_same : (s : Chosen) (w v : World) → SameKept w v → dump_payload s v ≡ dump_payload s w
payload_same s w v p =
    ap (λ os. let b : Batch = record { records = os; tune = v.live.board.tune } in payload_of (log_of s) b) p.objects ∙ ap (λ t. payload_of (log_of s) (world_batch w.live.objects t)) p.tune
