use Rattle.muck_laws.proofs.Options.{porter_cuts}
use Rattle.muck_run.proofs.Dumped.{plays_made, breaks_made, last_made, last_dead, came_made, noted_made, noted_dead, idle_made, dumps_ok, dumps_err}
use Rattle.muck_run.proofs.dumping.dump.Goals as goal

pub dump-requires-clause-may : goal.dump-requires-clause-may
dump-requires-clause-may g c = porter_cuts _ c.requires.idle

pub dump-requires-clause-mounted : goal.dump-requires-clause-mounted
dump-requires-clause-mounted g c = λ tells. let there = c.requires.mounted tells in (there.0, there.1.keeps)

pub returns-in-Ok-clause-plays : goal.returns-in-Ok-clause-plays
returns-in-Ok-clause-plays g c = λ o. plays_made _ _ o _ c.in-Ok.ensures.happened c.requires.alive

pub returns-in-Ok-clause-last : goal.returns-in-Ok-clause-last
returns-in-Ok-clause-last g c = last_made _ _ _ c.in-Ok.ensures.happened

pub returns-in-Ok-clause-outcome : goal.returns-in-Ok-clause-outcome
returns-in-Ok-clause-outcome g c = came_made _ _ _ c.in-Ok.ensures.happened

pub returns-in-Ok-clause-notes : goal.returns-in-Ok-clause-notes
returns-in-Ok-clause-notes g c = noted_made _ _ _ c.in-Ok.ensures.happened

pub returns-in-Ok-clause-idle : goal.returns-in-Ok-clause-idle
returns-in-Ok-clause-idle g c = idle_made _ _ _ c.in-Ok.ensures.happened

pub returns-in-Ok-clause-kept : goal.returns-in-Ok-clause-kept
returns-in-Ok-clause-kept g c = λ mounted tells r.
    dumps_ok g.D.Disk.seen g.D.Disk.moment g.D.Disk.images g.D.Disk.faults _ _ _ mounted _ _ (c.in-Ok.ensures.kept mounted tells r.keeps)

pub returns-in-Err-clause-plays : goal.returns-in-Err-clause-plays
returns-in-Err-clause-plays g c = λ o. breaks_made _ _ o c.in-Err.ensures.happened

pub returns-in-Err-clause-last : goal.returns-in-Err-clause-last
returns-in-Err-clause-last g c = last_dead _ _ c.in-Err.ensures.happened

pub returns-in-Err-clause-notes : goal.returns-in-Err-clause-notes
returns-in-Err-clause-notes g c = noted_dead _ _ c.in-Err.ensures.happened

pub returns-in-Err-clause-kept : goal.returns-in-Err-clause-kept
returns-in-Err-clause-kept g c = λ mounted tells r.
    dumps_err g.D.Disk.seen g.D.Disk.moment g.D.Disk.images g.D.Disk.faults _ _ _ mounted _ _ _ (c.in-Err.ensures.kept mounted tells r.keeps)
