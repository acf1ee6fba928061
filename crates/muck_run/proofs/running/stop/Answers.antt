use Rattle.std.proofs.Common.{refl, sym, ◌∙◌}
use Rattle.spec_dumps.proofs.Quiet.{quiet_nothing, quiet_one}
use Rattle.muck_run.proofs.Whole.{halts, stands}
use Rattle.muck_run.proofs.running.stop.Goals as goal

pub returns-then-not-is_stopping-clause-halts : goal.returns-then-not-is_stopping-clause-halts
returns-then-not-is_stopping-clause-halts c = halts _ _ (sym (c.is_stopping.ensures c.requires) ∙ c.if-not-is_stopping.true) c.halt.ensures

pub returns-then-not-is_stopping-clause-quiet : goal.returns-then-not-is_stopping-clause-quiet
returns-then-not-is_stopping-clause-quiet c = quiet_one _ _ _ refl c.halt.ensures

pub returns-else-not-is_stopping-clause-halts : goal.returns-else-not-is_stopping-clause-halts
returns-else-not-is_stopping-clause-halts c = stands _ (sym (c.is_stopping.ensures c.requires) ∙ c.if-not-is_stopping.false)

pub returns-else-not-is_stopping-clause-quiet : goal.returns-else-not-is_stopping-clause-quiet
returns-else-not-is_stopping-clause-quiet c = quiet_nothing _ _ refl
