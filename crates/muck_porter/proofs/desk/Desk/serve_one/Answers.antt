use Rattle.std.proofs.Common.{ℕ, Some, sym, ◌∙◌, subst}
use Rattle.spec_events.specs.Histories.{now}
use Rattle.muck_porter.specs.inner.Rounds.{Nearer}
use Rattle.muck_porter.specs.inner.Desks.{stand}
use Rattle.muck_porter.proofs.Stages.{formed_free}
use Rattle.muck_porter.proofs.Holding.{spent_goes}
use Rattle.muck_porter.proofs.DeskServed.{went_goes, closed_goes, nobody_goes, dead_goes}
use Rattle.muck_porter.proofs.OneServed.{went_below, closed_below, went_nearer, closed_nearer}
use Rattle.muck_porter.proofs.Turning.{turn_entry, turn_made}
use Rattle.muck_porter.proofs.Quiet.{served_quiet}
use Rattle.muck_porter.proofs.desk.Desk.serve_one.Goals as goal

pub gives-requires-clause-entered : goal.gives-requires-clause-entered
gives-requires-clause-entered g c =
    let s = c.serves-served.ensures.step in
    turn_entry c.args.self.now.noted c.begins.new.noted (g.L.Links.told c.args.self.now.links.now) c.args.self.now.seat.now.me c.begins.new.seat.me c.in-Ok.held.state c.serves-served.new.world s.0 c.in-Ok.ensures.ok (served_quiet _ _ _ _ s.0 s.2) s.1

pub writes-next-requires : goal.writes-next-requires
writes-next-requires g c = let s = c.serves-served.ensures.step in went_below _ c.in-Went.at _ _ _ _ c.in-Went.is s.2

pub lets_go-requires : goal.lets_go-requires
lets_go-requires g c = let s = c.serves-served.ensures.step in closed_below _ c.in-Closed.at _ _ _ _ c.in-Closed.is s.2

pub returns-in-Went : goal.returns-in-Went
returns-in-Went g c =
    let d = stand g.L.Links.tells g.L.Links.told g.L.Links.listening g.C.Clock.answers c.args.self.now in
    let s = c.serves-served.ensures.step in
    let taken = turn_made c.args.self.now.noted c.begins.new.noted (g.L.Links.told c.args.self.now.links.now) c.args.self.now.seat.now.me c.begins.new.seat.me c.in-Ok.held.state c.serves-served.new.world s.0 c.in-Ok.ensures.ok (served_quiet _ _ _ _ s.0 s.2) s.1 c.gives.new.seat.me c.gives.ensures.given in
    let w = c.writes-next.ensures in
    record {
      goes = went_goes d c.gives.new.seat.me c.gives.new.seat.table_id c.gives.new.seat.id c.begins.new.noted (g.C.Clock.answers c.serves-served.new.clock) (now c.in-Ok.held.state) s.0 c.requires.0 c.requires.1 (c.gives.ensures.own.0 ∙ c.begins.ensures.own.0, c.gives.ensures.own.1 ∙ c.begins.ensures.own.1) taken s.3 c.serves-served.result c.serves-served.new.peers.items s.2 c.in-Went.at _ _ _ _ c.in-Went.is w.tells w.listening w.ports w.wrote;
      place = subst (λ (n : ℕ). Nearer (Some n) c.args.from c.args.self.now.peers.now.items c.writes-next.new.peers.items) (sym w.behind)
          (went_nearer _ c.in-Went.at c.args.from _ _ _ _ _ c.in-Went.is s.2 c.serves-served.ensures.place w.count);
    }

pub returns-in-Closed : goal.returns-in-Closed
returns-in-Closed g c =
    let d = stand g.L.Links.tells g.L.Links.told g.L.Links.listening g.C.Clock.answers c.args.self.now in
    let s = c.serves-served.ensures.step in
    let taken = turn_made c.args.self.now.noted c.begins.new.noted (g.L.Links.told c.args.self.now.links.now) c.args.self.now.seat.now.me c.begins.new.seat.me c.in-Ok.held.state c.serves-served.new.world s.0 c.in-Ok.ensures.ok (served_quiet _ _ _ _ s.0 s.2) s.1 c.gives.new.seat.me c.gives.ensures.given in
    let w = c.lets_go.ensures in
    record {
      goes = closed_goes d c.gives.new.seat.me c.gives.new.seat.table_id c.gives.new.seat.id c.begins.new.noted (g.C.Clock.answers c.serves-served.new.clock) (now c.in-Ok.held.state) s.0 c.requires.0 c.requires.1 (c.gives.ensures.own.0 ∙ c.begins.ensures.own.0, c.gives.ensures.own.1 ∙ c.begins.ensures.own.1) taken s.3 c.serves-served.result c.serves-served.new.peers.items s.2 c.in-Closed.at _ _ _ _ c.in-Closed.is w.tells w.listening w.ports w.told w.gone;
      place = closed_nearer _ c.in-Closed.at c.args.from _ _ _ _ _ c.in-Closed.is s.2 c.serves-served.ensures.place w.gone;
    }

pub returns-in-Nobody-clause-goes : goal.returns-in-Nobody-clause-goes
returns-in-Nobody-clause-goes g c =
    let d = stand g.L.Links.tells g.L.Links.told g.L.Links.listening g.C.Clock.answers c.args.self.now in
    let s = c.serves-served.ensures.step in
    let taken = turn_made c.args.self.now.noted c.begins.new.noted (g.L.Links.told c.args.self.now.links.now) c.args.self.now.seat.now.me c.begins.new.seat.me c.in-Ok.held.state c.serves-served.new.world s.0 c.in-Ok.ensures.ok (served_quiet _ _ _ _ s.0 s.2) s.1 c.gives.new.seat.me c.gives.ensures.given in
    nobody_goes d c.gives.new.seat.me c.gives.new.seat.table_id c.gives.new.seat.id c.begins.new.noted (g.C.Clock.answers c.serves-served.new.clock) (now c.in-Ok.held.state) s.0 c.requires.0 c.requires.1 (c.gives.ensures.own.0 ∙ c.begins.ensures.own.0, c.gives.ensures.own.1 ∙ c.begins.ensures.own.1) taken s.3 c.serves-served.result c.serves-served.new.peers.items s.2 c.in-Nobody.is

pub returns-in-Dead-clause-goes : goal.returns-in-Dead-clause-goes
returns-in-Dead-clause-goes g c =
    let d = stand g.L.Links.tells g.L.Links.told g.L.Links.listening g.C.Clock.answers c.args.self.now in
    let s = c.serves-served.ensures.step in
    let taken = turn_made c.args.self.now.noted c.begins.new.noted (g.L.Links.told c.args.self.now.links.now) c.args.self.now.seat.now.me c.begins.new.seat.me c.in-Ok.held.state c.serves-served.new.world s.0 c.in-Ok.ensures.ok (served_quiet _ _ _ _ s.0 s.2) s.1 c.gives.new.seat.me c.gives.ensures.given in
    dead_goes d c.gives.new.seat.me c.gives.new.seat.table_id c.gives.new.seat.id c.begins.new.noted (g.C.Clock.answers c.serves-served.new.clock) (now c.in-Ok.held.state) s.0 c.requires.0 c.requires.1 (c.gives.ensures.own.0 ∙ c.begins.ensures.own.0, c.gives.ensures.own.1 ∙ c.begins.ensures.own.1) taken s.3 c.serves-served.result c.serves-served.new.peers.items s.2 c.in-Dead.is

pub returns-in-Err-clause-goes : goal.returns-in-Err-clause-goes
returns-in-Err-clause-goes g c =
    let d = stand g.L.Links.tells g.L.Links.told g.L.Links.listening g.C.Clock.answers c.args.self.now in
    let e = c.in-Err.ensures in
    spent_goes d c.begins.new.seat.me _ _ _ d.peers d.coming c.requires.1.resting (formed_free d.me.0.own c.requires.1.free) c.begins.ensures.own e.waited.0 e.left
