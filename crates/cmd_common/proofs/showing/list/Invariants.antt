use Rattle.std.proofs.Common.{drop, Result}
use Rattle.muck_model.specs.declared.memory.NoMemory.{NoMemory}
use Rattle.spec_commands.specs.Finding.{names_listed}
use Rattle.muck_perm.specs.declared.guard.Guard.{Guard}
use Rattle.muck_perm.specs.inner.Guards.{Did}
use Rattle.cmd_common.proofs.showing.list.Given as goal

-- what lists the rest from here lists all from the start
abbrev pub invariant-loop-x : goal.invariant-loop-x
invariant-loop-x l = (new : Guard) (r : Result (Unit {0}) NoMemory) → Did (names_listed l.d l.player (drop l.x-index l.xs)) l.guard new r → Did (names_listed l.d l.player l.xs) l.fn.guard new r
