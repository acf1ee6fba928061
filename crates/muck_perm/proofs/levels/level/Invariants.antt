use Rattle.std.proofs.Common.{◌≡◌, length}
use Rattle.spec_rights.specs.Levels.{level}
use Rattle.muck_perm.proofs.levels.level.Given as goal

-- what is left to go up gives the same level
abbrev pub invariant-loop-caller : goal.invariant-loop-caller
invariant-loop-caller l = level l.db l.running l.rest ≡ level l.fn.db l.fn.program l.fn.callers

abbrev pub decreases-loop-caller : goal.decreases-loop-caller
decreases-loop-caller l = length l.rest
