use Rattle.muck_run.proofs.Started.{bootable}
use Rattle.muck_run.specs.inner.Dumps.{note_of}
use Rattle.muck_run.specs.inner.Ends.{unbegun_at}
use Rattle.tests_serve.proofs.Begun.{fresh_begun, ready_begun}
use Rattle.tests_serve.proofs.served.play.Goals as goal

pub awake-requires : goal.awake-requires
awake-requires g c = record { bootable = bootable c.in-Ok.log.chosen.held.world c.in-Ok.ensures.fine }

pub serve-why-requires-clause-fresh : goal.serve-why-requires-clause-fresh
serve-why-requires-clause-fresh g c κs within =
    let note = note_of g.D.Disk.moment g.D.Disk.faults c.mount.new.first c.mount.new.second (unbegun_at 0 c.in-Ok.log) in
    (note, fresh_begun 0 c.in-Ok.log note c.in-Ok-awake.world c.in-Ok-awake.ensures.world)

pub serve-why-requires-clause-mounted : goal.serve-why-requires-clause-mounted
serve-why-requires-clause-mounted g c κs within = λ tells.
    (c.in-Ok.log.chosen.held.number, ready_begun 0 g.D.Disk.seen g.D.Disk.moment g.D.Disk.images g.D.Disk.faults c.in-Ok.log c.mount.new.first c.mount.new.second (bootable c.in-Ok.log.chosen.held.world c.in-Ok.ensures.fine) c.in-Ok-awake.ensures.properties (c.in-Ok.ensures.log tells) c.in-Ok-awake.world c.in-Ok-awake.ensures.world)
