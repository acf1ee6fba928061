use Rattle.spec_dumps.proofs.Quiet.{quiet_on}
use Rattle.muck_run.proofs.Parts.{breaks_first}
use Rattle.muck_script.specs.Story.{acted, turns, turns_most, plain_part}
use Rattle.muck_run.proofs.Exits.{second_part}
use Rattle.muck_run.proofs.playing.act_and_turn.Goals as goal

pub returns-in-Ok-clause-plays : goal.returns-in-Ok-clause-plays
returns-in-Ok-clause-plays g c = second_part (plain_part (acted c.args.asked.now)) (plain_part (turns turns_most)) _ _ _ _ _ _ c.turn.result c.in-Ok.ensures.plays (c.turn.ensures.plays _)

pub returns-in-Err-clause-plays : goal.returns-in-Err-clause-plays
returns-in-Err-clause-plays g c = breaks_first (plain_part (acted c.args.asked.now)) (plain_part (turns turns_most)) _ _ _ _ _ c.in-Err.ensures.plays

pub turn-requires : goal.turn-requires
turn-requires g c = c.in-Ok.ensures.plays.alive

pub returns-in-Ok-clause-quiet : goal.returns-in-Ok-clause-quiet
returns-in-Ok-clause-quiet g c = quiet_on _ _ _ c.in-Ok.ensures.quiet c.turn.ensures.quiet
