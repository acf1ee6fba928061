use Rattle.std.proofs.Common.{◌≡◌, drop}
use Rattle.muck_codec.specs.Batches.{parameters_at, tune_at}
use Rattle.muck_codec.proofs.batch.tune_at.Given as goal

-- what the rest of the bytes gives for the rest of the parameters is what all of them give
abbrev pub invariant-loop-parameter : goal.invariant-loop-parameter
invariant-loop-parameter l = parameters_at (drop l.parameter-index l.parameter-items) l.tune l.rest ≡ tune_at l.bytes
