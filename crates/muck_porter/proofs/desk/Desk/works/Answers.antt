use Rattle.std.proofs.Common.{◌∙◌}
use Rattle.spec_events.specs.Histories.{now}
use Rattle.muck_porter.specs.inner.Kept.{IsFree}
use Rattle.muck_porter.specs.inner.Desks.{stand}
use Rattle.muck_porter.proofs.Stages.{formed_free}
use Rattle.muck_porter.proofs.Holding.{spent_goes, work_goes}
use Rattle.muck_porter.proofs.Turning.{turn_entry, turn_made}
use Rattle.muck_porter.proofs.Quiet.{worked_quiet}
use Rattle.muck_porter.proofs.desk.Desk.works.Goals as goal

pub gives-requires-clause-entered : goal.gives-requires-clause-entered
gives-requires-clause-entered g c =
    let s = c.works-worked.ensures in
    turn_entry c.args.self.now.noted c.begins.new.noted (g.L.Links.told c.args.self.now.links.now) c.args.self.now.seat.now.me c.begins.new.seat.me c.in-Ok.held.state c.works-worked.new.world s.0 c.in-Ok.ensures.ok (worked_quiet _ _ s.2) s.1

pub returns-in-Ok : goal.returns-in-Ok
returns-in-Ok g c =
    let d = stand g.L.Links.tells g.L.Links.told g.L.Links.listening g.C.Clock.answers c.args.self.now in
    let s = c.works-worked.ensures in
    let taken = turn_made c.args.self.now.noted c.begins.new.noted (g.L.Links.told c.args.self.now.links.now) c.args.self.now.seat.now.me c.begins.new.seat.me c.in-Ok.held.state c.works-worked.new.world s.0 c.in-Ok.ensures.ok (worked_quiet _ _ s.2) s.1 c.gives.new.seat.me c.gives.ensures.given in
    work_goes d c.gives.new.seat.me c.gives.new.seat.table_id c.gives.new.seat.id c.begins.new.noted (g.C.Clock.answers c.works-worked.new.clock) (now c.in-Ok.held.state) s.0 c.requires.0 c.requires.1.resting (c.gives.ensures.own.0 ∙ c.begins.ensures.own.0, c.gives.ensures.own.1 ∙ c.begins.ensures.own.1) taken s.3 c.requires.1 c.works-worked.result s.2

pub returns-in-Err : goal.returns-in-Err
returns-in-Err g c =
    let d = stand g.L.Links.tells g.L.Links.told g.L.Links.listening g.C.Clock.answers c.args.self.now in
    let e = c.in-Err.ensures in
    spent_goes d c.begins.new.seat.me _ _ _ d.peers d.coming c.requires.1.resting (formed_free d.me.0.own (IsFree.timed c.requires.1.timed)) c.begins.ensures.own e.waited.0 e.left
