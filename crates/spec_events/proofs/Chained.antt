-- The units of a slice are licensed, each begins where the one before it ended, and they are whole.
use Rattle.std.proofs.Common.{ℕ, ℤ, refl}
use Rattle.muck_model.specs.declared.tune.Tune.{Tune}
use Rattle.muck_queue.specs.inner.Numbered.{IsNumbered}
use Rattle.spec_events.specs.World.{World}
use Rattle.spec_events.specs.Slices.{slice_most, units_run, process_awake, units_of, sliced}
use Rattle.spec_events.specs.Licences.{Chained, SliceLicensed}
use Rattle.spec_events.proofs.Endings.{IsTold}
use Rattle.spec_events.proofs.Slicing.{run_holds}
use Rattle.spec_events.proofs.Judged.{units_licensed}
use Rattle.spec_events.proofs.Sections.{slice_whole}

pub units_chained : (tune : Tune) (pid : ℤ) (n : ℕ) (w : World) → Chained pid w (units_run tune n pid w)
units_chained tune pid n w = run_holds tune pid (Chained pid) (λ v. tt) (λ v x s ts e h. (record { agent = x; world = refl; stands = e; acts = refl }, h)) n w

pub slice_licensed : (pid : ℤ) (w : World) → IsTold w.live → IsNumbered w.queue → SliceLicensed pid (units_of pid w) w (sliced pid w)
unfolding sliced
slice_licensed pid w told numbered = record {
  units = units_licensed w.live.board.tune pid (slice_most w.live.board.tune) (process_awake pid w) told;
  chained = units_chained w.live.board.tune pid (slice_most w.live.board.tune) (process_awake pid w);
  leads = refl;
  processes = refl;
  whole = slice_whole pid w numbered;
}
