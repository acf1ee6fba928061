use Rattle.std.proofs.Common.{refl, None}
use Rattle.muck_dumping.specs.inner.Dumps.{note_of}
use Rattle.muck_dumping.proofs.Beginning.{died_here}
use Rattle.muck_dumping.proofs.Steps.{ended_idle}
use Rattle.muck_dumper.specs.inner.Steps.{with_note}
use Rattle.muck_dumper.proofs.deeds.finishes.Goals as goal

pub returns-then-is_dead-clause-safe : goal.returns-then-is_dead-clause-safe
returns-then-is_dead-clause-safe g c = λ mounted log r tells w is.
    died_here g.D.Disk.seen g.D.Disk.moment g.D.Disk.images g.D.Disk.faults None c.args.first.now c.args.second.now mounted c.args.world.now c.died.new.self 9 w.keeps c.died.ensures

pub returns-in-Ok-clause-made : goal.returns-in-Ok-clause-made
returns-in-Ok-clause-made g c = with_note (note_of g.D.Disk.moment g.D.Disk.faults c.args.first.now c.args.second.now c.args.world.now) refl c.in-Ok.ensures.step

pub returns-in-Ok-clause-idle : goal.returns-in-Ok-clause-idle
returns-in-Ok-clause-idle g c = λ is. ended_idle c.args.world.now c.end.new.world (note_of g.D.Disk.moment g.D.Disk.faults c.args.first.now c.args.second.now c.args.world.now) 9 c.args.number c.args.stored c.in-Ok.ensures.step

pub returns-in-Ok-clause-last : goal.returns-in-Ok-clause-last
returns-in-Ok-clause-last g c = λ failed is. c.in-Ok.ensures.last failed

pub returns-in-Ok-clause-rests : goal.returns-in-Ok-clause-rests
returns-in-Ok-clause-rests g c = λ mounted log r tells w e is. c.in-Ok.ensures.rests mounted log r tells w e

pub returns-in-Err-clause-made : goal.returns-in-Err-clause-made
returns-in-Err-clause-made g c = with_note (note_of g.D.Disk.moment g.D.Disk.faults c.args.first.now c.args.second.now c.args.world.now) refl c.in-Err.ensures.died
