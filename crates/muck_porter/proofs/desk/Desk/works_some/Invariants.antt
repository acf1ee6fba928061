use Rattle.muck_porter.specs.inner.Desks.{stand, Far, Goes}
use Rattle.muck_porter.proofs.desk.Desk.works_some.Given as goal

abbrev pub invariant-loop-left : goal.invariant-loop-left
invariant-loop-left g l = Goes Far.timed (stand g.L.Links.tells g.L.Links.told g.L.Links.listening g.C.Clock.answers l.initial.self) (stand g.L.Links.tells g.L.Links.told g.L.Links.listening g.C.Clock.answers l.self)

abbrev pub decreases-loop-left : goal.decreases-loop-left
decreases-loop-left g l = l.left
