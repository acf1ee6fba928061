use Rattle.muck_run.proofs.Turns.{plays_turns, breaks_turns, quiet_turns, quiet_dying}
use Rattle.muck_watching.proofs.watching.turn.Goals as goal

pub returns-in-Ok-clause-plays : goal.returns-in-Ok-clause-plays
returns-in-Ok-clause-plays c = λ o. plays_turns _ _ _ _ c.in-Ok.ensures.world c.requires

pub returns-in-Err-clause-plays : goal.returns-in-Err-clause-plays
returns-in-Err-clause-plays c = λ o. breaks_turns _ _ _ _ c.in-Err.ensures.died

pub returns-in-Ok-clause-quiet : goal.returns-in-Ok-clause-quiet
returns-in-Ok-clause-quiet c = quiet_turns _ _ _ c.in-Ok.ensures.world

pub returns-in-Err-clause-quiet : goal.returns-in-Err-clause-quiet
returns-in-Err-clause-quiet c = quiet_dying _ _ _ c.in-Err.ensures.died
