use Rattle.std.proofs.Common.{sym}
use Rattle.muck_porter.specs.inner.Desks.{stand}
use Rattle.muck_porter.proofs.Going.{goes_as}
use Rattle.muck_porter.proofs.Ending.{fresh_stands, porter_done}
use Rattle.muck_porter.proofs.desk.Desk.serves.Goals as goal

pub goes_on-requires : goal.goes_on-requires
goes_on-requires g c = fresh_stands (stand g.L.Links.tells g.L.Links.told g.L.Links.listening g.C.Clock.answers c.args.self.now) c.requires

pub dies-requires : goal.dies-requires
dies-requires g c = fresh_stands (stand g.L.Links.tells g.L.Links.told g.L.Links.listening g.C.Clock.answers c.args.self.now) c.requires

pub returns-clause-done : goal.returns-clause-done
returns-clause-done g c = porter_done _ _ _ c.goes_on.ensures.goes c.requires c.goes_on.ensures.broke

pub returns-then-is_empty-clause-done : goal.returns-then-is_empty-clause-done
returns-then-is_empty-clause-done g c = porter_done _ _ _ (goes_as _ _ _ _ (sym c.why_of.ensures.far) c.dies.ensures.goes) c.requires (λ e. absurd (c.why_of.ensures.early e))
