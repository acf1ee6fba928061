use Rattle.std.proofs.Common.{drop, Result}
use Rattle.muck_model.specs.declared.memory.NoMemory.{NoMemory}
use Rattle.spec_commands.specs.Programming.{lines_shown}
use Rattle.muck_perm.specs.declared.guard.Guard.{Guard}
use Rattle.muck_perm.specs.inner.Guards.{Did}
use Rattle.cmd_common.proofs.showing.show_lines.Given as goal

-- what shows the rest from here shows all from the start
abbrev pub invariant-loop-line : goal.invariant-loop-line
invariant-loop-line l = (new : Guard) (r : Result (Unit {0}) NoMemory) → Did (lines_shown l.d (drop l.line-index l.lines)) l.guard new r → Did (lines_shown l.d l.lines) l.fn.guard new r
