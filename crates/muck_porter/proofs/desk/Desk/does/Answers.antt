use Rattle.std.proofs.Common.{refl, sym, ap, ◌∙◌}
use Rattle.spec_events.specs.Histories.{now}
use Rattle.muck_porter.specs.inner.Desks.{stand}
use Rattle.muck_porter.specs.inner.Reaches.{deed_reach}
use Rattle.muck_porter.proofs.Going.{goes_as}
use Rattle.muck_porter.proofs.Holding.{may_sits, may_resting, may_claim, spent_deed, spent_last, deed_goes, deed_last}
use Rattle.muck_porter.proofs.Turning.{turn_entry, turn_made, deed_held}
use Rattle.muck_porter.proofs.Quiet.{did_quiet}
use Rattle.muck_porter.proofs.desk.Desk.does.Goals as goal

pub gives-requires-clause-entered : goal.gives-requires-clause-entered
gives-requires-clause-entered g c =
    let s = c.does-did.ensures in
    turn_entry c.args.self.now.noted c.begins.new.noted (g.L.Links.told c.args.self.now.links.now) c.args.self.now.seat.now.me c.begins.new.seat.me c.in-Ok.held.state c.does-did.new.world s.0 c.in-Ok.ensures.ok (did_quiet _ _ _ _ _ s.0 s.2) s.1

pub begins-requires-clause-own : goal.begins-requires-clause-own
begins-requires-clause-own g c = (may_sits c.args.deed.now _ c.requires).0

pub begins-requires-clause-ready : goal.begins-requires-clause-ready
begins-requires-clause-ready g c = may_resting c.args.deed.now _ c.requires

pub does-did-requires : goal.does-did-requires
does-did-requires g c = deed_held c.args.self.now.noted c.begins.new.noted (g.L.Links.told c.args.self.now.links.now) c.args.self.now.seat.now.me c.begins.new.seat.me c.in-Ok.held.state c.args.deed.now c.in-Ok.ensures.ok (may_claim c.args.deed.now _ c.requires)

pub returns-in-Ok : goal.returns-in-Ok
returns-in-Ok g c =
    let d = stand g.L.Links.tells g.L.Links.told g.L.Links.listening g.C.Clock.answers c.args.self.now in
    let s = c.does-did.ensures in
    let taken = turn_made c.args.self.now.noted c.begins.new.noted (g.L.Links.told c.args.self.now.links.now) c.args.self.now.seat.now.me c.begins.new.seat.me c.in-Ok.held.state c.does-did.new.world s.0 c.in-Ok.ensures.ok (did_quiet _ _ _ _ _ s.0 s.2) s.1 c.gives.new.seat.me c.gives.ensures.given in
    record {
      goes = goes_as _ _ _ _ (ap (deed_reach c.args.deed.now) (sym c.settled.ensures))
          (deed_goes d c.gives.new.seat.me c.gives.new.seat.table_id c.gives.new.seat.id c.begins.new.noted (g.C.Clock.answers c.does-did.new.clock) (now c.in-Ok.held.state) s.0 (may_sits c.args.deed.now d c.requires) (may_resting c.args.deed.now d c.requires) (c.gives.ensures.own.0 ∙ c.begins.ensures.own.0, c.gives.ensures.own.1 ∙ c.begins.ensures.own.1) taken s.3 c.args.deed.now c.requires c.does-did.result s.2);
      last = deed_last d c.gives.new.seat.me c.gives.new.seat.table_id c.gives.new.seat.id c.begins.new.noted (g.C.Clock.answers c.does-did.new.clock) (now c.in-Ok.held.state) s.0 (may_sits c.args.deed.now d c.requires) (may_resting c.args.deed.now d c.requires) (c.gives.ensures.own.0 ∙ c.begins.ensures.own.0, c.gives.ensures.own.1 ∙ c.begins.ensures.own.1) taken s.3 c.args.deed.now c.requires c.does-did.result s.2;
    }

pub returns-in-Err : goal.returns-in-Err
returns-in-Err g c =
    let d = stand g.L.Links.tells g.L.Links.told g.L.Links.listening g.C.Clock.answers c.args.self.now in
    let e = c.in-Err.ensures in
    record {
      goes = spent_deed c.args.deed.now d c.begins.new.seat.me _ _ _ c.requires c.begins.ensures.own e.waited.0 e.left;
      last = spent_last c.args.deed.now d _ c.requires e.waited.0 refl refl;
    }
