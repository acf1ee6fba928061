use Rattle.muck_bodies.proofs.Starts.{starts_as}
use Rattle.muck_bodies.proofs.beginning.start_of.Goals as goal

pub returns-clause-start : goal.returns-clause-start
returns-clause-start g c t s loads =
    starts_as c.in_ok-a.a c.in_ok-b.b (g.D.Disk.seen c.args.first.now) (g.D.Disk.seen c.args.second.now) s c.chosen_start.result (c.in_ok-a.ensures.head t) (c.in_ok-b.ensures.head t) loads c.chosen_start.ensures
