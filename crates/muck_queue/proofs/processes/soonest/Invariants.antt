use Rattle.std.proofs.Common.{◌≡◌, true, take}
use Rattle.std.specs.List.{list_all}
use Rattle.muck_queue.specs.inner.Known.{fits_second}
use Rattle.muck_queue.proofs.processes.soonest.Given as goal

abbrev pub invariant-loop-p : goal.invariant-loop-p
invariant-loop-p l = list_all (fits_second l.soonest) (take l.p-index l.processes) ≡ true
