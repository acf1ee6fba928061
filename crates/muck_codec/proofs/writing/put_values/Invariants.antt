use Rattle.std.proofs.Common.{◌≡◌, ◌++◌, take}
use Rattle.std.specs.List.{flat_map}
use Rattle.muck_codec.specs.Batches.{parameter_bytes}
use Rattle.muck_codec.proofs.writing.put_values.Given as goal

abbrev pub invariant-loop-parameter : goal.invariant-loop-parameter
invariant-loop-parameter l = l.out.items ≡ l.initial.out.items ++ flat_map (parameter_bytes l.tune) (take l.parameter-index l.parameters)
