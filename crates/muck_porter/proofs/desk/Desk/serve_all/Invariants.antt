use Rattle.std.proofs.Common.{◌-◌, vec_len}
use Rattle.muck_porter.specs.inner.Desks.{stand, Far, Goes}
use Rattle.muck_porter.proofs.desk.Desk.serve_all.Given as goal

abbrev pub invariant-loop-from : goal.invariant-loop-from
invariant-loop-from g l = Goes Far.free (stand g.L.Links.tells g.L.Links.told g.L.Links.listening g.C.Clock.answers l.initial.self) (stand g.L.Links.tells g.L.Links.told g.L.Links.listening g.C.Clock.answers l.self)

abbrev pub decreases-loop-from : goal.decreases-loop-from
decreases-loop-from g l = vec_len l.self.peers.now - l.from
