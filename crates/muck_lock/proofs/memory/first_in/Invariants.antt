use Rattle.std.proofs.Common.{◌≡◌, drop}
use Rattle.muck_lock.specs.inner.Memory.{first_in}
use Rattle.muck_lock.proofs.memory.first_in.Given as goal

abbrev pub invariant-loop-k : goal.invariant-loop-k
invariant-loop-k l = first_in l.d l.k (drop l.k l.objects) ≡ first_in l.d l.from (drop l.from l.objects)
