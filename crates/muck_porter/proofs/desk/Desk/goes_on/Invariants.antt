use Rattle.muck_porter.specs.inner.Desks.{stand, Far, Goes}
use Rattle.muck_porter.proofs.desk.Desk.goes_on.Given as goal

abbrev pub invariant-loop : goal.invariant-loop
invariant-loop g l = Goes Far.free (stand g.L.Links.tells g.L.Links.told g.L.Links.listening g.C.Clock.answers l.initial.self) (stand g.L.Links.tells g.L.Links.told g.L.Links.listening g.C.Clock.answers l.self)
