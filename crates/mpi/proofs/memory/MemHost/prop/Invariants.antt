use Rattle.std.proofs.Common.{◌≡◌, take}
use Rattle.std.specs.Prelude.{None}
use Rattle.std.specs.List.{fold}
use Rattle.std.specs.Option.{option_copied}
use Rattle.mpi.specs.inner.Memory.{found_prop}
use Rattle.mpi.proofs.memory.MemHost.prop.Given as goal

abbrev pub invariant-loop-prop : goal.invariant-loop-prop
invariant-loop-prop l = option_copied l.found ≡ fold (found_prop l.path l.d) None (take l.prop-index l.prop-items)
