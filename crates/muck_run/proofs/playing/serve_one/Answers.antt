use Rattle.muck_script.specs.Story.{plain_part, queue_taken, connection_parted}
use Rattle.spec_dumps.proofs.Quiet.{quiet_on}
use Rattle.muck_run.proofs.Parts.{breaks_first}
use Rattle.muck_run.proofs.Exits.{second_part}
use Rattle.muck_run.proofs.playing.serve_one.Goals as goal

pub returns-in-Ok-clause-plays : goal.returns-in-Ok-clause-plays
returns-in-Ok-clause-plays g c = second_part (plain_part (queue_taken c.args.d)) (plain_part (connection_parted c.args.d)) _ _ _ _ _ _ c.part.result c.in-Ok.ensures.plays c.part.ensures.plays

pub returns-in-Err-clause-plays : goal.returns-in-Err-clause-plays
returns-in-Err-clause-plays g c = breaks_first (plain_part (queue_taken c.args.d)) (plain_part (connection_parted c.args.d)) _ _ _ _ _ c.in-Err.ensures.plays

pub returns-in-Ok-clause-quiet : goal.returns-in-Ok-clause-quiet
returns-in-Ok-clause-quiet g c = quiet_on _ _ _ c.in-Ok.ensures.quiet c.part.ensures.quiet
