use Rattle.std.proofs.Common.{drop, Result}
use Rattle.muck_model.specs.declared.memory.NoMemory.{NoMemory}
use Rattle.spec_commands.specs.Finding.{for_each}
use Rattle.spec_admin.specs.Lines.{parameter_shown}
use Rattle.muck_perm.specs.declared.guard.Guard.{Guard}
use Rattle.muck_perm.specs.inner.Guards.{Did}
use Rattle.cmd_admin.proofs.parameters.show_each.Given as goal

-- what shows the rest from here shows all from the start
abbrev pub invariant-loop-parameter : goal.invariant-loop-parameter
invariant-loop-parameter l = (new : Guard) (r : Result (Unit {0}) NoMemory) →
    Did (for_each (parameter_shown l.d l.tune) (drop l.parameter-index l.parameters)) l.guard new r → Did (for_each (parameter_shown l.d l.tune) l.parameters) l.fn.guard new r
