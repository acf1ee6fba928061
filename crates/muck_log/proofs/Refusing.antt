-- What is refused before any write.
use Rattle.std.specs.Prelude.{◌≡◌, ◌≤◌, List, length, Some, true, Err}
use Rattle.muck_model.specs.declared.tune.Tune.{Tune}
use Rattle.muck_model.specs.Parameters.{tune_fits}
use Rattle.spec_live.specs.Objects.{Entry}
use Rattle.muck_codec.specs.declared.stored.Batch.{Batch}
use Rattle.muck_store.specs.inner.Changes.{LeavesOut}
use Rattle.muck_store.specs.Forms.{persist}
use Rattle.muck_log.specs.World.{laid}
use Rattle.muck_log.specs.Store.{LogState, target}
use Rattle.muck_log.specs.Append.{IsRefused, IsTouching, base_of, payload_of}
use Rattle.muck_log.specs.declared.fault.LogFault.{LogFault}
use Rattle.muck_log.specs.declared.fault.LogFault.TheVariants.{NoMemory, DiskFault, Damaged, StoreFull, Stale}

refused_untouched : (old new : LogState) (batch : Batch) (fault : LogFault) → IsRefused old new batch fault → IsTouching (Err fault) → ⊥
refused_untouched old new batch NoMemory is touched = touched
refused_untouched old new batch DiskFault is touched = is
refused_untouched old new batch (Damaged second at) is touched = touched
refused_untouched old new batch (StoreFull end more) is touched = touched
refused_untouched old new batch Stale is touched = touched

pub refused_whole : (old new : LogState) (batch : Batch) (fault : LogFault) → IsRefused old new batch fault → IsTouching (Err fault)
    → (es : List Entry) (tune : Tune) → LeavesOut (base_of old) (persist es) batch.records → batch.tune ≡ tune → tune_fits tune ≡ true → 2 ≤ length es
    → length old.chosen.held.world.objects ≤ length es → laid (payload_of old batch) (target old.chosen).held.world ≡ Some (record { objects = persist es; tune = tune })
refused_whole old new batch fault is touched = absurd (refused_untouched old new batch fault is touched)
