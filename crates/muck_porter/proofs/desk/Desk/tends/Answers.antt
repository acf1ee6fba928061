use Rattle.muck_laws.proofs.Numbers.{at_most}
use Rattle.muck_porter.specs.inner.Desks.{stand}
use Rattle.muck_porter.proofs.Linking.{tended_goes, untended_goes}
use Rattle.muck_porter.proofs.desk.Desk.tends.Goals as goal

pub returns-in-Ok : goal.returns-in-Ok
returns-in-Ok g c =
    let d = stand g.L.Links.tells g.L.Links.told g.L.Links.listening g.C.Clock.answers c.args.self.now in
    let e = c.in-Ok.ensures in
    tended_goes d _ _ _ e.tells (at_most _ _ e.listening) e.ports _ c.requires e.listening e.ok

pub returns-in-Err : goal.returns-in-Err
returns-in-Err g c =
    let d = stand g.L.Links.tells g.L.Links.told g.L.Links.listening g.C.Clock.answers c.args.self.now in
    let e = c.in-Err.ensures in
    untended_goes d _ _ _ e.tells (at_most _ _ e.listening) e.ports _ _ _ c.requires e.listening e.err c.dies.ensures.goes c.dies.ensures.last
