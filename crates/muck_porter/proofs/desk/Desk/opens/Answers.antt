use Rattle.std.proofs.Common.{List, [], ◌∷◌, ◌++◌, refl, sym, ap, ◌∙◌, subst}
use Rattle.muck_laws.proofs.Numbers.{at_most}
use Rattle.spec_events.specs.Histories.{now}
use Rattle.spec_serve.specs.inner.Keeping.{Peer}
use Rattle.muck_porter.specs.declared.deeds.Did.{Did}
use Rattle.muck_porter.specs.declared.deeds.Deed.TheVariants.{Open}
use Rattle.muck_porter.specs.inner.Kept.{tally}
use Rattle.muck_porter.specs.inner.Deeds.{DidAs}
use Rattle.muck_porter.specs.inner.Moves.{number_in}
use Rattle.muck_porter.specs.inner.Desks.{stand}
use Rattle.muck_porter.proofs.Stages.{formed_free}
use Rattle.muck_porter.proofs.Carrying.{promised_in}
use Rattle.muck_porter.proofs.Going.{still_with}
use Rattle.muck_porter.proofs.Holding.{spent_goes, opened_goes, opened_late, died_free}
use Rattle.muck_porter.proofs.Linking.{lost_goes}
use Rattle.muck_porter.proofs.Turning.{turn_entry, turn_made}
use Rattle.muck_porter.proofs.Quiet.{did_quiet}
use Rattle.muck_porter.proofs.desk.Desk.opens.Goals as goal

pub returns-in-Err : goal.returns-in-Err
returns-in-Err g c =
    let d = stand g.L.Links.tells g.L.Links.told g.L.Links.listening g.C.Clock.answers c.args.self.now in
    lost_goes d d.tells d.told d.listening refl (at_most _ _ refl) (λ t. refl) _ _ _ (λ t b bk. promised_in b d.me.0 (tally d.told d.listening) d.peers (number_in d.coming) bk) c.dies.ensures.goes c.dies.ensures.last

pub returns-in-None : goal.returns-in-None
returns-in-None g c =
    let d = stand g.L.Links.tells g.L.Links.told g.L.Links.listening g.C.Clock.answers c.args.self.now in
    still_with d _ _ c.requires c.reserve.ensures.items (c.take.ensures.after ∙ sym c.in-None.is ∙ c.take.ensures.value)

pub does-did-requires : goal.does-did-requires
does-did-requires g c = tt

pub gives-requires-clause-entered : goal.gives-requires-clause-entered
gives-requires-clause-entered g c =
    let s = c.does-did.ensures in
    turn_entry c.args.self.now.noted c.begins.new.noted (g.L.Links.told c.args.self.now.links.now) c.args.self.now.seat.now.me c.begins.new.seat.me c.in-Ok-begins.held.state c.does-did.new.world s.0 c.in-Ok-begins.ensures.ok (did_quiet (Open c.number.result) c.does-did.result c.begins.new.noted c.reserve.new.self.items (now c.in-Ok-begins.held.state) s.0 s.2) s.1

pub returns-in-Done : goal.returns-in-Done
returns-in-Done g c =
    let d = stand g.L.Links.tells g.L.Links.told g.L.Links.listening g.C.Clock.answers c.args.self.now in
    let s = c.does-did.ensures in
    let taken = turn_made c.args.self.now.noted c.begins.new.noted (g.L.Links.told c.args.self.now.links.now) c.args.self.now.seat.now.me c.begins.new.seat.me c.in-Ok-begins.held.state c.does-did.new.world s.0 c.in-Ok-begins.ensures.ok (did_quiet (Open c.number.result) c.does-did.result c.begins.new.noted c.reserve.new.self.items (now c.in-Ok-begins.held.state) s.0 s.2) s.1 c.gives.new.seat.me c.gives.ensures.given in
    opened_goes d c.gives.new.seat.me c.gives.new.seat.table_id c.gives.new.seat.id c.begins.new.noted (g.C.Clock.answers c.does-did.new.clock) (now c.in-Ok-begins.held.state) s.0 c.requires.0 c.requires.1.resting (c.gives.ensures.own.0 ∙ c.begins.ensures.own.0, c.gives.ensures.own.1 ∙ c.begins.ensures.own.1) taken s.3 c.in-Some.peer c.number.result _ _ c.requires.1 (sym c.take.ensures.value ∙ c.in-Some.is) c.number.ensures (subst (λ (x : Did). DidAs (Open c.number.result) x c.begins.new.noted c.reserve.new.self.items (now c.in-Ok-begins.held.state) s.0) c.in-Done.is s.2)
    (c.push_reserved.ensures.items ∙ ap (λ (l : List Peer). l ++ c.in-Some.peer ∷ []) c.reserve.ensures.items) c.take.ensures.after

pub returns-in-Timed : goal.returns-in-Timed
returns-in-Timed g c =
    let d = stand g.L.Links.tells g.L.Links.told g.L.Links.listening g.C.Clock.answers c.args.self.now in
    let s = c.does-did.ensures in
    let taken = turn_made c.args.self.now.noted c.begins.new.noted (g.L.Links.told c.args.self.now.links.now) c.args.self.now.seat.now.me c.begins.new.seat.me c.in-Ok-begins.held.state c.does-did.new.world s.0 c.in-Ok-begins.ensures.ok (did_quiet (Open c.number.result) c.does-did.result c.begins.new.noted c.reserve.new.self.items (now c.in-Ok-begins.held.state) s.0 s.2) s.1 c.gives.new.seat.me c.gives.ensures.given in
    opened_late d c.gives.new.seat.me c.gives.new.seat.table_id c.gives.new.seat.id c.begins.new.noted (g.C.Clock.answers c.does-did.new.clock) (now c.in-Ok-begins.held.state) s.0 c.requires.0 c.requires.1.resting (c.gives.ensures.own.0 ∙ c.begins.ensures.own.0, c.gives.ensures.own.1 ∙ c.begins.ensures.own.1) taken s.3 _ _ c.requires.1 (subst (λ (x : Did). DidAs (Open c.number.result) x c.begins.new.noted c.reserve.new.self.items (now c.in-Ok-begins.held.state) s.0) c.in-Timed.is s.2) c.reserve.ensures.items (sym c.in-Some.is ∙ c.take.ensures.value)

pub returns-in-Dead : goal.returns-in-Dead
returns-in-Dead g c =
    let d = stand g.L.Links.tells g.L.Links.told g.L.Links.listening g.C.Clock.answers c.args.self.now in
    let s = c.does-did.ensures in
    let taken = turn_made c.args.self.now.noted c.begins.new.noted (g.L.Links.told c.args.self.now.links.now) c.args.self.now.seat.now.me c.begins.new.seat.me c.in-Ok-begins.held.state c.does-did.new.world s.0 c.in-Ok-begins.ensures.ok (did_quiet (Open c.number.result) c.does-did.result c.begins.new.noted c.reserve.new.self.items (now c.in-Ok-begins.held.state) s.0 s.2) s.1 c.gives.new.seat.me c.gives.ensures.given in
    died_free d c.gives.new.seat.me c.gives.new.seat.table_id c.gives.new.seat.id c.begins.new.noted (g.C.Clock.answers c.does-did.new.clock) (now c.in-Ok-begins.held.state) s.0 c.requires.0 c.requires.1.resting (c.gives.ensures.own.0 ∙ c.begins.ensures.own.0, c.gives.ensures.own.1 ∙ c.begins.ensures.own.1) taken s.3 _ _ c.requires.1.free (subst (λ (x : Did). DidAs (Open c.number.result) x c.begins.new.noted c.reserve.new.self.items (now c.in-Ok-begins.held.state) s.0) c.in-Dead.is s.2)

pub returns-in-Err-begins : goal.returns-in-Err-begins
returns-in-Err-begins g c =
    let d = stand g.L.Links.tells g.L.Links.told g.L.Links.listening g.C.Clock.answers c.args.self.now in
    let e = c.in-Err-begins.ensures in
    spent_goes d c.begins.new.seat.me _ _ _ _ _ c.requires.1.resting (formed_free d.me.0.own c.requires.1.free) c.begins.ensures.own e.waited.0 e.left
