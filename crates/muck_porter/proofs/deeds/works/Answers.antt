use Rattle.std.proofs.Common.{refl}
use Rattle.muck_model.specs.declared.event.Event.TheVariants.{Moment, Died}
use Rattle.spec_events.specs.Histories.{now}
use Rattle.muck_porter.proofs.Quiet.{job_untimed}
use Rattle.muck_porter.proofs.deeds.works.Goals as goal

pub returns-then-is_dead : goal.returns-then-is_dead
returns-then-is_dead g c = (Died, c.died.ensures, refl, refl)

pub returns-then-not-is_stopping : goal.returns-then-not-is_stopping
returns-then-not-is_stopping g c =
    let e = c.does_job.ensures in
    (e.0, e.1, e.2, job_untimed c.does_job.result e.0 e.2 (now c.args.world.now) (g.C.Clock.answers c.args.clock.now))

pub returns-then-ready : goal.returns-then-ready
returns-then-ready g c = let t = c.tells_time.ensures in (Moment t.0, t.1, (t.0, refl), t.2)

pub returns-else-ready : goal.returns-else-ready
returns-else-ready g c = let t = c.tells_time.ensures in (Moment t.0, t.1, (t.0, refl), t.2)
