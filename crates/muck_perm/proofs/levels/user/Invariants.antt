use Rattle.std.proofs.Common.{◌≡◌, length}
use Rattle.spec_rights.specs.Levels.{user}
use Rattle.muck_perm.proofs.levels.user.Given as goal

-- what is left to go up gives the same user
abbrev pub invariant-loop-caller : goal.invariant-loop-caller
invariant-loop-caller l = user l.db l.player l.trigger l.running l.rest ≡ user l.fn.db l.fn.player l.fn.trigger l.fn.program l.fn.callers

abbrev pub decreases-loop-caller : goal.decreases-loop-caller
decreases-loop-caller l = length l.rest
