-- A batch without a record.
use Rattle.std.proofs.Common.{◌≡◌, [], ap, ◌∙◌}
use Rattle.muck_codec.specs.declared.stored.Batch.{Batch}
use Rattle.muck_model.specs.Parameters.{first_tune, tune_fits}
use Rattle.muck_model.proofs.Parameters.{first_fits}
use Rattle.muck_log.specs.World.{IsFine}
use Rattle.muck_log.specs.Store.{LogState}
use Rattle.muck_log.specs.Append.{MakesWorld}
use Rattle.muck_log.proofs.Deltas.{nothing_makes}

pub makes : (log : LogState) (batch : Batch) → IsFine log.chosen.held.world → batch.records ≡ [] → batch.tune ≡ first_tune → MakesWorld log batch
makes log batch fine none tuned = nothing_makes log batch fine none (ap tune_fits tuned ∙ first_fits)
