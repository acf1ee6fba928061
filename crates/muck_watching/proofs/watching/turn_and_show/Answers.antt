use Rattle.std.proofs.Common.{None}
use Rattle.spec_dumps.proofs.Quiet.{quiet_on}
use Rattle.muck_script.specs.Story.{turns, turns_most, plain_part}
use Rattle.muck_watching.proofs.Seeing.{shown_turns, breaks_turns_seen, quiet_shows}
use Rattle.muck_watching.proofs.watching.turn_and_show.Goals as goal

pub returns-in-Ok-clause-plays : goal.returns-in-Ok-clause-plays
returns-in-Ok-clause-plays g c =
    shown_turns turns_most c.args.tracer.now c.turn.new.tracer c.show.new.tracer c.args.world.now c.turn.new.world c.show.new.world _ _ c.requires.ready (c.in-Ok.ensures.plays None) c.in-Ok.ensures.seen c.show.result c.show.ensures.shows

pub returns-in-Err-clause-plays : goal.returns-in-Err-clause-plays
returns-in-Err-clause-plays g c = breaks_turns_seen (plain_part (turns turns_most)) _ _ _ _ _ (c.in-Err.ensures.plays None)

pub returns-in-Ok-clause-quiet : goal.returns-in-Ok-clause-quiet
returns-in-Ok-clause-quiet g c = quiet_on _ _ _ c.in-Ok.ensures.quiet (quiet_shows _ _ _ _ _ _ c.show.result c.show.ensures.shows)
