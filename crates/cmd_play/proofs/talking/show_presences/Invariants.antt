use Rattle.std.proofs.Common.{drop, Result}
use Rattle.muck_model.specs.declared.memory.NoMemory.{NoMemory}
use Rattle.spec_commands.specs.Finding.{for_each}
use Rattle.spec_commands.specs.Talking.{presence_shown}
use Rattle.muck_perm.specs.declared.guard.Guard.{Guard}
use Rattle.muck_perm.specs.inner.Guards.{Did}
use Rattle.cmd_play.proofs.talking.show_presences.Given as goal

-- what shows the rest from here shows all from the start
abbrev pub invariant-loop-presence : goal.invariant-loop-presence
invariant-loop-presence l = (new : Guard) (r : Result (Unit {0}) NoMemory) → Did (for_each (presence_shown l.d) (drop l.presence-index l.presences)) l.guard new r → Did (for_each (presence_shown l.d) l.presences) l.fn.guard new r
