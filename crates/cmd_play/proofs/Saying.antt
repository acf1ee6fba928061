-- A line that was said or posed.
use Rattle.std.proofs.Common.{◌≡◌, Bool, List, ℕ, sym, subst, Result, Ok, Err}
use Rattle.muck_model.specs.declared.memory.NoMemory.{NoMemory}
use Rattle.spec_live.specs.Lives.{Change}
use Rattle.spec_commands.specs.declared.outcome.Outcome.{Outcome}
use Rattle.spec_commands.specs.declared.outcome.Outcome.TheVariants.{Said}
use Rattle.spec_commands.specs.Going.{ended}
use Rattle.muck_perm.specs.declared.guard.Guard.{Guard}
use Rattle.muck_perm.specs.inner.Guards.{Did}
use Rattle.cmd_common.specs.inner.Plays.{Plays}
use Rattle.cmd_play.specs.inner.Saying.{SaysSo}

pub plays_said : (pose : Bool) (text : List ℕ) (f : Change) (old new : Guard) (shown : Result (Unit {0}) NoMemory) (result : Result Outcome NoMemory) → Did f old new shown → SaysSo shown pose text result → Plays (ended (Said pose text) f) old new result
unfolding ended
plays_said pose text f old new (Ok x) (Ok o) d is = (d, is)
plays_said pose text f old new (Ok x) (Err e) d is = d.1.1
plays_said pose text f old new (Err x) result d is = subst (λ r. Plays (ended (Said pose text) f) old new r) (sym is) d
