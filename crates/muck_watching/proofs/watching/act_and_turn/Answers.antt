use Rattle.spec_dumps.proofs.Quiet.{quiet_on}
use Rattle.muck_script.specs.Story.{acted, turns, turns_most, plain_part}
use Rattle.muck_watching.proofs.Seeing.{acted_unseen, plays_unseen, breaks_unseen, breaks_first_seen, second_seen}
use Rattle.muck_watching.proofs.watching.act_and_turn.Goals as goal

pub returns-in-Ok-clause-plays : goal.returns-in-Ok-clause-plays
returns-in-Ok-clause-plays g c =
    second_seen (plain_part (acted c.args.asked.now)) (plain_part (turns turns_most)) _ _ _ _ _ _ _ _ _ c.turn_and_show.result
    (plays_unseen (plain_part (acted c.args.asked.now)) _ _ _ _ _ (acted_unseen c.args.asked.now) c.in-Ok.ensures.plays) c.turn_and_show.ensures.plays

pub returns-in-Err-clause-plays : goal.returns-in-Err-clause-plays
returns-in-Err-clause-plays g c =
    breaks_first_seen (plain_part (acted c.args.asked.now)) (plain_part (turns turns_most)) _ _ _ _ _ _
    (breaks_unseen (plain_part (acted c.args.asked.now)) _ _ _ _ _ _ (acted_unseen c.args.asked.now) c.in-Err.ensures.plays)

pub turn_and_show-requires-clause-alive : goal.turn_and_show-requires-clause-alive
turn_and_show-requires-clause-alive g c = c.in-Ok.ensures.plays.alive

pub returns-in-Ok-clause-quiet : goal.returns-in-Ok-clause-quiet
returns-in-Ok-clause-quiet g c = quiet_on _ _ _ c.in-Ok.ensures.quiet c.turn_and_show.ensures.quiet
